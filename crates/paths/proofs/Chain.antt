-- Chains: the numbers `chain_least` are the cost table, and where there is a path they name the first one of least distance, block by block
-- from the first. This is the law of graphs, read for a chain: its edges are words, its vertices states.
use mathlib.Core.Path.{◌≡◌, refl, sym, ap, ap₂, ◌∙◌}
use mathlib.Core.Bool.{Bool, true, false, cond}
use mathlib.Core.List.{List, [], ◌∷◌, map, flat_map}
use mathlib.Core.Option.{some as just}
use Prim.Native.Nat.{ℕ, zero, suc, ◌+◌, ◌*◌, ◌≤◌, ◌<◌}
use native.Mathlib.Omega.{arith}
use Rattle.trellis.specs.Word.{Word}
use Rattle.paths.specs.Choice.{Choice, none, some, choose, best}
use Rattle.paths.specs.Chain.{unreached, rooted_at, chain_paths, path_distance, best_path, cost_table}
use Rattle.paths.specs.Inner.Costs.{least, next, trace, or_stop}
use Rattle.paths.specs.Inner.Chains.{chain_graph, at_end, chain_least, chain_trace}
use Rattle.paths.specs.Inner.OneBlock.{least_over, first_over}
use Rattle.paths.proofs.Choose.{extend, choose_all, best_all}
use Rattle.paths.proofs.First.{all_chosen, best_none}
use Rattle.paths.proofs.Walk.{paths, Prices, ahead, ahead_best}
use Rattle.paths.proofs.Capped.{capped, least_ahead, capped_had, capped_paid, capped_none, capped_le, AtMost}
use Rattle.paths.proofs.Capped.{ahead_at_most}
use Rattle.paths.proofs.Trace.{Extended, extended, trace_best}

-- the chain's paths are those of its graph
pub chain_paths_lem : (words : ℕ → List Word) (ends : ℕ → Bool) (k b s : ℕ) → chain_paths words ends k b s ≡ paths (chain_graph words ends) k b s
unfolding chain_paths paths
chain_paths_lem words ends zero b s = refl
chain_paths_lem words ends (suc k) b s =
    ap (λ (f : ℕ → List (List Word)). flat_map (λ w. map (λ ws. w ∷ ws) (f w.goal)) (rooted_at s (words b)))
    (λ i u. chain_paths_lem words ends k (suc b) u i)

unfoldable chain_prices : (words : ℕ → List Word) (ends : ℕ → Bool) → (ℕ → Word → ℕ) → Prices (chain_graph words ends)
unfolding path_distance extend
chain_prices words ends dist = record { cost = dist; offer = λ b ws. some (path_distance dist b ws) ws; more = λ b w ws. refl }

module _ (words : ℕ → List Word) (ends : ℕ → Bool) (dist : ℕ → Word → ℕ) where
  ahead_is : (k b s : ℕ) → ahead (chain_prices words ends dist) k b s ≡ best_path words ends dist k b s
  unfolding chain_prices best_path
  ahead_is k b s =
      ahead_best (chain_prices words ends dist) k b s
      ∙ ap (choose_all (λ ws. some (path_distance dist b ws) ws)) (sym (chain_paths_lem words ends k b s))
      ∙ sym (best_all (path_distance dist b) (chain_paths words ends k b s))

  -- no block left
  pub best_end : (b s : ℕ) → best_path words ends dist zero b s ≡ cond (ends s) (some 0 []) none
  unfolding best_path chain_paths best choose path_distance
  best_end b s = go (ends s)
    where
      go : (t : Bool) → best (path_distance dist b) (cond t ([] ∷ []) []) ≡ cond t (some 0 []) none
      go true = refl
      go false = refl

  -- the best path behind the first word of the best path
  pub record Behind (k b c : ℕ) (w : Word) (ws : List Word) : Type 0 where
    pub rest : ℕ
    pub best_is : best_path words ends dist k (suc b) w.goal ≡ some rest ws
    pub adds_up : c ≡ dist b w + rest

  behind_by : (k b : ℕ) {c : ℕ} {w : Word} {ws : List Word} (v : Word)
      → Extended (dist b v) (λ vs. v ∷ vs) (best_path words ends dist k (suc b) v.goal) c (w ∷ ws) → Behind k b c w ws
  behind_by k b {c} {w} {ws} v X =
      let p = X.path_is in
      let i : w ≡ v = cc in
      let j : ws ≡ X.path = cc in
      record {
        rest = X.cost;
        best_is = ap (λ x. best_path words ends dist k (suc b) x.goal) i ∙ X.had ∙ ap (some X.cost) (sym j);
        adds_up = X.cost_is ∙ ap (λ x. dist b x + X.cost) (sym i);
      }

  pub behind : (k b s : ℕ) {c : ℕ} {w : Word} {ws : List Word} → best_path words ends dist (suc k) b s ≡ some c (w ∷ ws) → Behind k b c w ws
  unfolding chain_prices ahead
  behind k b s e =
      let C = all_chosen (λ v. extend (dist b v) (λ vs. v ∷ vs) (ahead (chain_prices words ends dist) k (suc b) v.goal))
      (rooted_at s (words b))
      (ahead_is (suc k) b s ∙ e) in
      behind_by k b C.member
      (extended _ _ _ (ap (extend (dist b C.member) (λ vs. C.member ∷ vs)) (sym (ahead_is k (suc b) C.member.goal)) ∙ C.offers))

  -- where no path is best there is none
  pub none_listed : (k b s : ℕ) → best_path words ends dist k b s ≡ none → chain_paths words ends k b s ≡ []
  unfolding best_path
  none_listed k b s e = best_none (path_distance dist b) (chain_paths words ends k b s) e

  module _ (top : ℕ) where
    ends_at : (b s : ℕ) → at_end top ends s ≡ capped top (ahead (chain_prices words ends dist) zero b s)
    unfolding capped
    ends_at b s = go (ends s) ∙ sym (ap (capped top) (ahead_is zero b s ∙ best_end b s))
      where
        go : (t : Bool) → cond t 0 top ≡ capped {P = List Word} top (cond t (some 0 []) none)
        go true = omega arith
        go false = refl

    ended_by : (b s c : ℕ) (ws : List Word) → ahead (chain_prices words ends dist) zero b s ≡ some c ws → [] ≡ ws
    ended_by b s c ws e = go (ends s) (sym (ahead_is zero b s ∙ best_end b s) ∙ e)
      where
        go : (t : Bool) → ◌≡◌ {A = Choice (List Word)} (cond t (some 0 []) none) (some c ws) → [] ≡ ws
        go true h = cc
        go false h = let z : ◌≡◌ {A = ℕ} 0 1 = cc in absurd (omega arith)

    -- the numbers follow backward, block by block
    least_best : (k b s : ℕ) → chain_least words ends dist top k b s ≡ capped top (best_path words ends dist k b s)
    unfolding chain_least chain_prices
    least_best k b s = least_ahead top (chain_prices words ends dist) (at_end top ends) ends_at k b s ∙ ap (capped top) (ahead_is k b s)

    pub least_le : (k b s : ℕ) → chain_least words ends dist top k b s ≤ top
    least_le k b s = let e = least_best k b s in let h = capped_le top (best_path words ends dist k b s) in omega arith

    -- and name the first path of least distance
    pub best_traced : (k b s : ℕ) → chain_least words ends dist top k b s < top
        → best_path words ends dist k b s ≡ some (chain_least words ends dist top k b s) (chain_trace words ends dist top k b s)
    unfolding chain_trace chain_prices
    best_traced k b s h =
        let e = least_best k b s in
        let H = capped_had top (best_path words ends dist k b s) (omega arith) in
        let t
        = trace_best (chain_prices words ends dist) top (at_end top ends) ends_at (λ v. []) ended_by k b s (ahead_is k b s ∙ H.is)
        (omega arith) in
        H.is ∙ ap₂ some (sym e) (sym t)

    -- one block: the numbers before it follow from those behind it, and so does the word that they name
    pub least_block : (k b s : ℕ)
        → chain_least words ends dist top (suc k) b s ≡ least_over (words b) (dist b) top (chain_least words ends dist top k (suc b)) s
    unfolding chain_least least least_over
    least_block k b s = refl

    pub trace_block : (k b s : ℕ) {w : Word} → first_over (words b) (dist b) top (chain_least words ends dist top k (suc b)) s ≡ just w
        → chain_trace words ends dist top (suc k) b s ≡ w ∷ chain_trace words ends dist top k (suc b) w.goal
    unfolding chain_trace trace or_stop chain_least next first_over least_over least
    trace_block k b s e = ap (or_stop [] (λ w. w ∷ chain_trace words ends dist top k (suc b) w.goal)) e

  -- ---- where no distance of a word is above d

  module _ (d : ℕ) (few : (b : ℕ) (w : Word) → dist b w ≤ d) where
    at_most : (k b s : ℕ) → AtMost (k * d) (best_path words ends dist k b s)
    unfolding chain_prices
    at_most k b s c ws o =
        let h = ahead_at_most (chain_prices words ends dist) 0 d few none_left k b s c ws (ahead_is k b s ∙ o) in omega arith
      where
        none_left : (t v : ℕ) → AtMost 0 (ahead (chain_prices words ends dist) zero t v)
        none_left t v c ws o = go (ends v) (sym (ahead_is zero t v ∙ best_end t v) ∙ o)
          where
            go : (u : Bool) → ◌≡◌ {A = Choice (List Word)} (cond u (some 0 []) none) (some c ws) → c ≤ 0
            go true i = let z : 0 ≡ c = cc in omega arith
            go false i = let z : ◌≡◌ {A = ℕ} 0 1 = cc in absurd (omega arith)

    -- the numbers are the cost table
    pub cost_table_lem : (k b s : ℕ) → k * d < unreached → cost_table words ends dist k b s ≡ chain_least words ends dist unreached k b s
    unfolding cost_table
    cost_table_lem k b s l =
        capped_paid unreached (k * d) (best_path words ends dist k b s) (at_most k b s) l ∙ sym (least_best unreached k b s)

    -- and `unreached` says that there is no path
    pub no_path : (k b s : ℕ) → k * d < unreached → cost_table words ends dist k b s ≡ unreached → best_path words ends dist k b s ≡ none
    no_path k b s l e =
        capped_none unreached (k * d) (best_path words ends dist k b s) (at_most k b s) l
        (sym (cost_table_lem k b s l ∙ least_best unreached k b s) ∙ e)
