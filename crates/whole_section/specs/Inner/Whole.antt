-- The section that a list is: usable, with its view and no numbers left over.
use Rattle.std.specs.Prelude.{cond, List, ℕ, Option, Some, None}
use Rattle.section_file.specs.Inner.View.{view_of}
use Rattle.section_file.specs.Usable.{is_section}
use Rattle.section_file.specs.declared.View.{View}

unfoldable pub whole_part : List ℕ → Option View
whole_part s = cond (is_section s) (Some (view_of s)) None
