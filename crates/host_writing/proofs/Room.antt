-- Where the list has room for all bytes, they stand in it one after another, and the place after is the last one's and one.
use mathlib.Core.Path.{◌≡◌, sym, ap, ◌∙◌, subst}
use mathlib.Core.Bool.{Bool, cond}
use mathlib.Core.List.{List, [], ◌∷◌, ◌++◌, append_assoc, append-nil}
use Prim.Native.Nat.{ℕ, suc, ◌+◌, ◌≤◌, ◌<◌}
use native.Mathlib.Numerals.{add-one}
use native.Mathlib.Omega.{arith}
use borrow.Author.Tests.{lt-ltb}
use lib.ListN.{length, get_or, set, take, length-set}
use lib.Seq.{take-suc, take-set-le, get_or-set_same}
use Rattle.law_answers.specs.Written.{Out, out_of, put_one, put_all, Puts}

-- what stands after bs were written into l from p on
pub record Stand (bs l : List ℕ) (p : ℕ) (o : Out) : Type 0 where
  pub after : o.place ≡ p + length bs
  pub bytes : take (p + length bs) o.list ≡ take p l ++ bs

one_in : (b : ℕ) (l : List ℕ) (p : ℕ) → p < length l → put_one b (out_of l p) ≡ out_of (set l p b) (p + 1)
unfolding put_one
one_in b l p h = ap (λ (t : Bool). cond t (out_of (set l p b) (p + 1)) (out_of l p)) (lt-ltb p (length l) h)

one-taken : (b : ℕ) (l : List ℕ) (p : ℕ) → p < length l → take (p + 1) (set l p b) ≡ take p l ++ (b ∷ [])
one-taken b l p h =
    let e : p + 1 ≡ suc p = add-one p in
    ap (λ (n : ℕ). take n (set l p b)) e
    ∙ take-suc (set l p b) p 0 (subst (λ (n : ℕ). p < n) (sym (length-set l p b)) h)
    ∙ ap (λ (x : List ℕ). x ++ (get_or (set l p b) p 0 ∷ [])) (take-set-le p l p b (omega arith))
    ∙ ap (λ (x : ℕ). take p l ++ (x ∷ [])) (get_or-set_same l p b 0 h)

pub stands : (bs l : List ℕ) (p : ℕ) → p + length bs ≤ length l → Stand bs l p (put_all bs (out_of l p))
unfolding put_all
stands [] l p h =
    record { after = omega arith; bytes = let e : p + 0 ≡ p = omega arith in ap (λ (n : ℕ). take n l) e ∙ sym (append-nil (take p l)) }
stands (b ∷ bs) l p h = subst (λ (o : Out). Stand (b ∷ bs) l p (put_all bs o)) (sym (one_in b l p (omega arith))) (on (stands bs (set l p b) (p + 1) (subst (λ (n : ℕ). p + 1 + length bs ≤ n) (sym (length-set l p b)) (omega arith))))
  where
    on : Stand bs (set l p b) (p + 1) (put_all bs (out_of (set l p b) (p + 1))) → Stand (b ∷ bs) l p (put_all bs (out_of (set l p b) (p + 1)))
    on g = record {
      after = g.after ∙ (omega arith);
      bytes =
          let e : p + suc (length bs) ≡ p + 1 + length bs = omega arith in
          ap (λ (n : ℕ). take n (put_all bs (out_of (set l p b) (p + 1))).list) e ∙ g.bytes
          ∙ ap (λ (x : List ℕ). x ++ bs) (one-taken b l p (omega arith)) ∙ append_assoc (take p l) (b ∷ []) bs;
    }

-- of what is printed: the first r bytes are bs
pub printed : (bs l : List ℕ) (r : ℕ) (m : List ℕ) → Puts bs l 0 r m → length bs ≤ length l → take r m ≡ bs
printed bs l r m f h =
    let g : Stand bs l 0 (put_all bs (out_of l 0)) = stands bs l 0 (omega arith) in
    let o : (put_all bs (out_of l 0)).place ≡ r = ap (λ (x : Out). x.place) f.says in
    let q : (put_all bs (out_of l 0)).list ≡ m = ap (λ (x : Out). x.list) f.says in
    ap (λ (n : ℕ). take n m) (sym o ∙ g.after) ∙ ap (take (0 + length bs)) (sym q) ∙ g.bytes
