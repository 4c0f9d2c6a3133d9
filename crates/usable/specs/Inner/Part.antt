-- The part of a slice that a usable section takes up.
use Rattle.std.specs.Prelude.{cond, List, ℕ, Option, Some, None}
use Rattle.section_file.specs.Usable.{usable}
use Rattle.section_file.specs.Inner.View.{view_of}
use Rattle.section_file.specs.declared.View.{View}

-- the view of the section at the front of a list, if it is usable
unfoldable pub part_of : List ℕ → Option View
part_of l = cond (usable l) (Some (view_of l)) None
