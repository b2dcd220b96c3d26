-- The pairs of parameters in the text: the ways through their functions.
use mathlib.Core.Path.{◌≡◌, refl, sym, ap, ◌∙◌}
use mathlib.Core.Bool.{Bool, true, false, cond}
use mathlib.Core.List.{List, map}
use mathlib.Core.Option.{some}
use Prim.Native.Nat.{ℕ, suc, ◌+◌, ◌<◌, ◌≤◌}
use native.Mathlib.Omega.{arith}
use borrow.Author.Tests.{lt-ltb, le-ltb}
use lib.ListN.{length}
use Rattle.leaf_bytes.specs.Bytes.{small, same}
use Rattle.law.specs.Base.{Name}
use Rattle.law.specs.Trees.{form, Trees, end, list, Run, first, later, push, word_at}
use Rattle.law_theorems.specs.Readings.{stack_at}
use Rattle.law_theorems.proofs.Reading.{none-word, none-stack, wordless}
use Rattle.text_words.specs.Sights.{Looks, Ends}
use Rattle.text_words.specs.declared.sight.Sight.{Sight}
use Rattle.text_words.specs.declared.sight.Sight.TheVariants as sight
use Rattle.text_skips.specs.Skips.{Past}
use Rattle.std.specs.Prelude.{Some, None}
use Rattle.table_scope.specs.Pairs.{lead_in, after_lead, next_pair, pair_in, Leads, FollowsLead, FindsPair}

-- ---- `first_word`

module _ (s : List ℕ) (at : ℕ) (v : Sight) (L : Looks s (stack_at s at) v) where
  pub lead-leaf : (p : ℕ) → v ≡ sight.Leaf p → Leads s at p
  unfolding lead_in after_lead
  lead-leaf p e = let g = rw e at L.says in record {
    name-is = sym (ap (λ (k : List (Trees Run)). lead_in (first k)) g.0);
    rest-is = sym (ap (λ (k : List (Trees Run)). after_lead (first k)) g.0);
  }

  nothing-there : lead_in (first (stack_at s at)) ≡ map small (word_at s (length s)) → after_lead (first (stack_at s at)) ≡ end → Leads s at (length s)
  nothing-there e f = record { name-is = sym e; rest-is = ap first (sym (wordless s (length s) (none-word s (length s) (omega arith))) ∙ none-stack s (length s) (omega arith)) ∙ sym f }

  pub lead-form : (p : ℕ) → v ≡ sight.Form p → Leads s at (length s)
  unfolding lead_in after_lead
  lead-form p e = let g = rw e at L.says in
      nothing-there (ap (λ (k : List (Trees Run)). lead_in (first k)) g ∙ sym (ap (map small) (none-word s (length s) (omega arith))))
      (ap (λ (k : List (Trees Run)). after_lead (first k)) g)

  pub lead-shut : (q : ℕ) → v ≡ sight.Shut q → Leads s at (length s)
  unfolding lead_in after_lead
  lead-shut q e = let g = rw e at L.says in
      nothing-there (ap lead_in g.0 ∙ sym (ap (map small) (none-word s (length s) (omega arith)))) (ap after_lead g.0)

pub ruleset lead_laws = (lead-leaf, lead-form, lead-shut)

-- ---- `type_word`

pub follow-is : (s : List ℕ) (at y q : ℕ) → Leads s at y → Ends s y q → FollowsLead s at q
follow-is s at y q L E = record { follows = ap first E.rest ∙ L.rest-is }

-- ---- `next_pair`

pub next_more : (j : ℕ) → j < 65535 → j + 1 ≡ next_pair j
unfolding next_pair
next_more j h = rw (lt-ltb j 65535 h) refl

pub next_last : (j : ℕ) → 65535 ≤ j → j ≡ next_pair j
unfolding next_pair
next_last j h = rw (le-ltb j 65535 h) refl

pub ruleset next_laws = (next_more, next_last)

-- ---- `find_pair`

-- the pairs from p on, the first of which has number j, are still to be compared
pub record Seeking (s : List ℕ) (at : ℕ) (w : Name) (j p : ℕ) : Type 0 where
  pub sought : pair_in 0 (first (stack_at s at)) w ≡ pair_in j (first (stack_at s p)) w

pub seek-start : (s : List ℕ) (at : ℕ) (w : Name) → Seeking s at w 0 at
seek-start s at w = record { sought = refl }

module _ (s : List ℕ) (at p : ℕ) (v : Sight) (L : Looks s (stack_at s p) v) where
  module _ (w : Name) (j : ℕ) (I : Seeking s at w j p) where
    pub seek-leaf : (q : ℕ) → v ≡ sight.Leaf q → FindsPair s at w None
    unfolding pair_in
    seek-leaf q e = let g = rw e at L.says in record { says = I.sought ∙ ap (λ (k : List (Trees Run)). pair_in j (first k) w) g.0 }

    pub seek-shut : (q : ℕ) → v ≡ sight.Shut q → FindsPair s at w None
    unfolding pair_in
    seek-shut q e = let g = rw e at L.says in record { says = I.sought ∙ ap (λ (ts : Trees Run). pair_in j ts w) g.0 }

  module _ (q : ℕ) (e : v ≡ sight.Form q) where
    opened : stack_at s p ≡ push (form (first (stack_at s q))) (later (stack_at s q))
    opened = rw e at L.says

    pub pairs-fewer : (r : ℕ) → Past s q r → length (list (first (stack_at s r))) < length (list (first (stack_at s p)))
    unfolding list
    pairs-fewer r P =
        let a : length (list (first (stack_at s p))) ≡ suc (length (list (first (later (stack_at s q))))) = ap (λ (k : List (Trees Run)). length (list (first k))) opened in
        let b : length (list (first (later (stack_at s q)))) ≡ length (list (first (stack_at s r))) = ap (λ (k : List (Trees Run)). length (list (first k))) P.beyond in
        omega arith

    module _ (w : Name) (j : ℕ) (I : Seeking s at w j p) (y : ℕ) (F : Leads s q y) (b : Bool) (t : b ≡ same (map small (word_at s y)) w) where
      compared : pair_in 0 (first (stack_at s at)) w ≡ cond b (some (j, first (stack_at s q))) (pair_in (next_pair j) (first (later (stack_at s q))) w)
      unfolding pair_in
      compared = I.sought ∙ ap (λ (k : List (Trees Run)). pair_in j (first k) w) opened
          ∙ ap (λ (c : Bool). cond c (some (j, first (stack_at s q))) (pair_in (next_pair j) (first (later (stack_at s q))) w)) (ap (λ (n : Name). same n w) (sym F.name-is) ∙ sym t)

      pub seek_found : b ≡ true → FindsPair s at w (Some (j, q))
      seek_found h = record { says = compared ∙ rw h refl }

      pub seek-on : b ≡ false → (r : ℕ) → Past s q r → (i : ℕ) → i ≡ next_pair j → Seeking s at w i r
      seek-on h r P i m = record { sought = compared ∙ rw (h, ← m) (ap (λ (k : List (Trees Run)). pair_in i (first k) w) P.beyond) }

pub ruleset seek-laws = (seek-leaf, seek-shut, seek_found, seek-on)
