-- The laws of `links`.
use mathlib.Core.Path.{◌≡◌, ap, ◌∙◌}
use mathlib.Core.List.{List, [], ◌∷◌}
use Prim.Native.Nat.{ℕ}
use lib.ListN.{set}
use Rattle.code.specs.Layout.{lay, link}
use Rattle.table_list.specs.Laid.{Laid}
use Rattle.rule_expr_nodes.specs.Links.{linked}

pub link_is : (ns : List ℕ) (slot top t : ℕ) (l l₁ l' : List ℕ) → Laid (lay ns top l) t l₁ → l' ≡ set l₁ slot top → Laid (link slot (lay ns top l)) t l'
unfolding link lay
link_is ns slot top t l l₁ l' h e = record { free = h.free; left = e ∙ ap (λ k. set k slot top) h.left }

pub linked_is : (slot place top t : ℕ) (l l' : List ℕ) → Laid (link slot (lay (place ∷ 0 ∷ []) top l)) t l' → Laid (linked slot place top l) t l'
unfolding linked
linked_is slot place top t l l' h = h
