-- Bodies laid one after another are all read back, with the places of earlier ones in their calls.
use mathlib.Core.Path.{◌≡◌, refl, sym, ◌∙◌}
use mathlib.Core.Bool.{Bool, true, false}
use mathlib.Core.List.{List, [], ◌∷◌, ◌++◌}
use Prim.Native.Nat.{ℕ, ◌<◌, ◌≤◌}
use native.Mathlib.Omega.{arith}
use borrow.Author.Tests.{ltb-true, ltb-false}
use lib.Dec.{ltb}
use lib.ListN.{length, get_or, length-append, get_or-append}
use lib.Seq.{get_or-append_seam}
use Rattle.law.specs.Code.{BodyCode}
use Rattle.code.specs.Layout.{lay_body}
use Rattle.code.specs.Readback.{read_body, body_at_places}
use Rattle.code.specs.LayoutSize.{size_body, BodyFits}
use Rattle.code.proofs.LayoutRegions.{Lays}
use Rattle.code.specs.LayoutRegions.{Room}
use Rattle.code.proofs.LayoutActs.{BodyAt, laid-body}
use Rattle.code.specs.LayoutActs.{Begins}
use Rattle.code.specs.LayoutBodies.{Bodies, BodiesAt}

-- what holds at each index of a list, and of one more element at the next, holds at each index of the longer list
pub one_more : {A : Type 0} (xs : List A) (y z : A) (P : ℕ → A → Type 0) → ((k : ℕ) → k < length xs → P k (get_or xs k z)) → P (length xs) y
    → (k : ℕ) → k < length (xs ++ y ∷ []) → P k (get_or (xs ++ y ∷ []) k z)
one_more xs y z P f g k h = go (ltb k (length xs)) refl
  where
    go : (b : Bool) → ltb k (length xs) ≡ b → P k (get_or (xs ++ y ∷ []) k z)
    go true e = rw (get_or-append xs (y ∷ []) z k (ltb-true k (length xs) e)) (f k (ltb-true k (length xs) e))
    go false e =
        let i : k ≡ length xs = omega (arith, length-append xs (y ∷ []), ltb-false k (length xs) e) in
        rw (i, get_or-append_seam xs y [] z) g

-- places that begin with one more begin with the rest
begun : (places : List ℕ) (p : ℕ) (all : List ℕ) → Begins (places ++ p ∷ []) all → Begins places all
begun places p all N = record {
  at = λ k h. sym (get_or-append places (p ∷ []) 0 k h) ∙ N.at k (omega (arith, length-append places (p ∷ [])));
}

module _ (other : BodyCode) where
  pub no-bodies : (a t : ℕ) (l : List ℕ) → Bodies other a t l [] []
  no-bodies a t l = record {
    count = refl;
    held = λ l' e. record {
      later = λ k h. absurd (omega arith);
      inside = λ k h. absurd (omega arith);
      number = λ k h. absurd (omega arith);
      read = λ all N k h d g. absurd (omega arith);
    };
  }

  -- the next body is laid at the free place
  pub body-next : (a t : ℕ) (l places : List ℕ) (bs : List BodyCode) (b : BodyCode) → a ≤ t → Room (size_body b) t l → BodyFits (length places) b
      → Bodies other a t l places bs
      → Bodies other a (lay_body places (length places) b t l).top (lay_body places (length places) b t l).list (places ++ (lay_body places (length places) b t l).pos ∷ [])
      (bs ++ b ∷ [])
  body-next a t l places bs b i r f B =
      let o = lay_body places (length places) b t l in
      let L : Lays (size_body b) t l o (λ l'. BodyAt places (length places) l' o.pos b) = laid-body places (length places) b t l in
      record {
        count = omega (arith, length-append places (o.pos ∷ []), length-append bs (b ∷ []), B.count);
        held = λ l' e.
            let old : BodiesAt other l' places bs = B.held l' (record { at = λ j h k. e.at j h (omega (arith, L.grows.up)) ∙ L.grows.below j k }) in
            let new : BodyAt places (length places) l' o.pos b = L.held r l' (record { at = λ j h k. e.at j (omega arith) k }) in
            record {
              later = one_more places o.pos 0 (λ _ q. 1 ≤ q) old.later new.later;
              inside = one_more places o.pos 0 (λ _ q. q < length l') old.inside new.inside;
              number = one_more places o.pos 0 (λ k q. get_or l' q 0 ≡ k) old.number new.number;
              read = λ all N.
                  let M : Begins places all = begun places o.pos all N in
                  one_more bs b other (λ k c. (d : ℕ) → size_body c ≤ d → read_body d l' (get_or (places ++ o.pos ∷ []) k 0) ≡ body_at_places all c)
                  (λ k h d g. rw (get_or-append places (o.pos ∷ []) 0 k (omega (arith, B.count))) (old.read all M k h d g))
                  (λ d g. rw (← B.count, get_or-append_seam places o.pos [] 0) (new.read f all M d g));
            };
      }
