-- The ways through operators on words.
use Rattle.std.proofs.Common.{◌≡◌, ℕ, zero, suc, ◌+◌, ◌-◌, ◌<◌, Bool, true, false, not, ◌&&◌, ◌||◌, length, ℤ, pos, ◌+ℤ◌, ◌-ℤ◌, ◌*ℤ◌, neg_ℤ, nat_abs, sym, refl, ap, ◌∙◌, arith, to_z-of_z, w32, w64, Fits, SFits, to_z, of_z}
use borrow.Author.Rules.{sfits_of}
use lib.IntN.{ -ℤ-+ℤ_cancel, +ℤ_invr, +ℤ_idl}
use lib.Signed.{le_z, lt_z}
use mir.Facts.{to_z_pos}
use Rattle.leaf_integers.proofs.Machine.{wire, same_bits}
use Rattle.leaf_integers.proofs.Ranges.{is-zero, not-zero}
use Rattle.leaf_integers.specs.Integers.{inside, exact, quotient, modulus, is_odd, next, previous}
use Rattle.leaf_powers.specs.Powers.{power}
use Rattle.leaf_integers.specs.declared.Fault.{Fault}
use Rattle.leaf_integers.specs.declared.Fault.TheVariants.{Overflow, Divisor, Exponent, Bound}
use Rattle.leaf_integers.specs.Integers.{Num}
use Rattle.std.specs.Prelude.{Ok, Err}
use Rattle.std.specs.Prelude.{Option}
use Rattle.std.specs.Prelude.{Some, None}
use Rattle.leaf_sets.specs.Sets.{members, members_of, pattern_of, value_of, holds, least, greatest as greatest_of, union_of, difference_of, intersection_of, within}
use Rattle.leaf_sets.proofs.Digits.{members-length, value-is}
use Rattle.law.specs.Base.{pick}
use Rattle.law.specs.Calculate.{is, fails, integer, exception_of, member_in, truth, is_true, equal_z, set_value, tested, compute, compute1}
use Rattle.law.specs.Operators.{Operation, int_add, Operation1, int_negate, pred_in, succ_in}
use Rattle.code.specs.Readback.{operations, operations1, operation_at, operation1_at}
use Rattle.code_calc.specs.Words.{greatest, fault_base, range_word, numeric_word, word_of, result_of, applied, applied1, tested_word}

-- ---- `word`, `member`
pub word_value : (n : Num) (z : ℤ) → n ≡ Ok z → SFits w64 z → wire z ≡ word_of (integer n)
unfolding word_of integer
word_value n z e s = to_z-of_z s ∙ rw e

module _ (n : Num) (f : Fault) (e : n ≡ Err f) where
  pub word_bound : f ≡ Bound → range_word ≡ word_of (integer n)
  unfolding word_of integer exception_of
  word_bound g = rw (e, g)

  pub word-other : (f ≡ Bound → ⊥) → numeric_word ≡ word_of (integer n)
  unfolding word_of integer exception_of
  word-other g = rw e (go f g)
    where
      go : (f : Fault) → (f ≡ Bound → ⊥) → numeric_word ≡ word_of (fails (exception_of f))
      go Overflow h = refl
      go Divisor h = refl
      go Exponent h = refl
      go Bound h = absurd (h refl)

pub ruleset word_laws = (word_value, word_bound, word-other, sfits_of)

pub member-ordinal : (m : Option ℕ) (i : ℕ) → m ≡ Some i → Fits w32 i → to_z w64 i ≡ word_of (member_in m)
unfolding word_of member_in
member-ordinal m i e f = to_z_pos w64 {n = i} (omega (arith, f.fits)) ∙ rw e

pub member-empty : (m : Option ℕ) → m ≡ None → range_word ≡ word_of (member_in m)
unfolding word_of member_in
member-empty m e = rw e

pub ruleset member_laws = (member-ordinal, member-empty)

-- ---- operators on sets
module _ (x y : ℤ) (p q s : ℕ) (z : ℤ) (fx : SFits w64 x) (fy : SFits w64 y) (e : p ≡ pattern_of (wire x)) (f : q ≡ pattern_of (wire y)) (k : SFits w64 z) where
  pub union-word : s ≡ value_of (union_of (members p) (members q)) → s < 4294967296 → z ≡ pos (value_of (members s)) → wire z ≡ set_value (union_of (members_of x) (members_of y))
  unfolding set_value members_of
  union-word g l h = to_z-of_z k ∙ h ∙ ap pos (value-is s l ∙ g ∙ rw (e, f, to_z-of_z fx, to_z-of_z fy))

  pub difference-word : s ≡ value_of (difference_of (members p) (members q)) → s < 4294967296 → z ≡ pos (value_of (members s)) → wire z ≡ set_value (difference_of (members_of x) (members_of y))
  unfolding set_value members_of
  difference-word g l h = to_z-of_z k ∙ h ∙ ap pos (value-is s l ∙ g ∙ rw (e, f, to_z-of_z fx, to_z-of_z fy))

  pub intersection-word : s ≡ value_of (intersection_of (members p) (members q)) → s < 4294967296 → z ≡ pos (value_of (members s)) → wire z ≡ set_value (intersection_of (members_of x) (members_of y))
  unfolding set_value members_of
  intersection-word g l h = to_z-of_z k ∙ h ∙ ap pos (value-is s l ∙ g ∙ rw (e, f, to_z-of_z fx, to_z-of_z fy))

  pub included-word : (b : Bool) → b ≡ within (members p) (members q) → z ≡ truth b → wire z ≡ truth (within (members_of x) (members_of y))
  unfolding members_of
  included-word b g h = to_z-of_z k ∙ h ∙ ap truth (g ∙ rw (e, f, to_z-of_z fx, to_z-of_z fy))

pub contained-word : (x y : ℤ) (q : ℕ) (b : Bool) (z : ℤ) → SFits w64 x → SFits w64 y → SFits w64 z → q ≡ pattern_of (wire y) → b ≡ holds (wire x) (members q) → z ≡ truth b
    → wire z ≡ truth (holds x (members_of y))
unfolding members_of
contained-word x y q b z fx fy k f g h = to_z-of_z k ∙ h ∙ ap truth (g ∙ rw (f, to_z-of_z fx, to_z-of_z fy))

pub ruleset set-laws = (union-word, difference-word, intersection-word, included-word, contained-word, sfits_of)

-- ---- comparisons
equal-zero : (x y : ℤ) → x ≡ y → equal_z x y ≡ true
equal-zero x y e = is-zero (x -ℤ y) (rw e (+ℤ_invr y))

unequal-zero : (x y : ℤ) → ((x ≡ y) → ⊥) → equal_z x y ≡ false
unequal-zero x y h = not-zero (x -ℤ y) (λ e. h (sym (-ℤ-+ℤ_cancel x y) ∙ ap (λ (i : ℤ). i +ℤ y) e ∙ +ℤ_idl y))

module _ (x y : ℤ) (fx : SFits w64 x) (fy : SFits w64 y) where
  pub equal-yes : of_z w64 x ≡ of_z w64 y → pos 1 ≡ truth (equal_z x y)
  unfolding truth
  equal-yes e = rw (equal-zero x y (same_bits x y fx fy e))

  pub equal-no : ((of_z w64 x ≡ of_z w64 y) → ⊥) → pos 0 ≡ truth (equal_z x y)
  unfolding truth
  equal-no h = rw (unequal-zero x y (λ e. h (ap (of_z w64) e)))

  pub unequal-no : of_z w64 x ≡ of_z w64 y → pos 0 ≡ truth (not (equal_z x y))
  unfolding truth
  unequal-no e = rw (equal-zero x y (same_bits x y fx fy e))

  pub unequal-yes : ((of_z w64 x ≡ of_z w64 y) → ⊥) → pos 1 ≡ truth (not (equal_z x y))
  unfolding truth
  unequal-yes h = rw (unequal-zero x y (λ e. h (ap (of_z w64) e)))

  pub less-yes : lt_z (wire x) (wire y) ≡ true → pos 1 ≡ truth (lt_z x y)
  unfolding truth
  less-yes e = sym (ap truth (rw (to_z-of_z fx, to_z-of_z fy) at e))

  pub less-no : lt_z (wire x) (wire y) ≡ false → pos 0 ≡ truth (lt_z x y)
  unfolding truth
  less-no e = sym (ap truth (rw (to_z-of_z fx, to_z-of_z fy) at e))

  pub most-yes : le_z (wire x) (wire y) ≡ true → pos 1 ≡ truth (le_z x y)
  unfolding truth
  most-yes e = sym (ap truth (rw (to_z-of_z fx, to_z-of_z fy) at e))

  pub most-no : le_z (wire x) (wire y) ≡ false → pos 0 ≡ truth (le_z x y)
  unfolding truth
  most-no e = sym (ap truth (rw (to_z-of_z fx, to_z-of_z fy) at e))

  pub both-second : (z : ℤ) → lt_z (pos 0) (wire x) ≡ true → z ≡ truth (lt_z (pos 0) (wire y)) → SFits w64 z → wire z ≡ truth (is_true x && is_true y)
  both-second z h e k = to_z-of_z k ∙ e ∙ rw (to_z-of_z fy, rw (to_z-of_z fx) at h)

  pub both-not : lt_z (pos 0) (wire x) ≡ false → pos 0 ≡ truth (is_true x && is_true y)
  unfolding truth
  both-not h = rw (rw (to_z-of_z fx) at h)

  pub either_first : lt_z (pos 0) (wire x) ≡ true → pos 1 ≡ truth (is_true x || is_true y)
  unfolding truth
  either_first h = rw (rw (to_z-of_z fx) at h)

  pub either_second : (z : ℤ) → lt_z (pos 0) (wire x) ≡ false → z ≡ truth (lt_z (pos 0) (wire y)) → SFits w64 z → wire z ≡ truth (is_true x || is_true y)
  either_second z h e k = to_z-of_z k ∙ e ∙ rw (to_z-of_z fy, rw (to_z-of_z fx) at h)

pub ruleset compare_laws = (equal-yes, equal-no, unequal-no, unequal-yes, less-yes, less-no, most-yes, most-no, both-second, both-not, either_first, either_second, sfits_of)

-- ---- two-sided operators
off : (op b i : ℕ) → op - b ≡ suc i → op ≡ suc i + b
off op b i q = omega (arith, q)

-- any other number is that of `+`
sum-at : (k : ℕ) → ((k ≡ 1) → ⊥) → ((k ≡ 2) → ⊥) → ((k ≡ 3) → ⊥) → ((k ≡ 4) → ⊥) → ((k ≡ 5) → ⊥) → ((k ≡ 6) → ⊥) → ((k ≡ 7) → ⊥) → ((k ≡ 8) → ⊥) → ((k ≡ 9) → ⊥) → ((k ≡ 10) → ⊥) → ((k ≡ 11) → ⊥) → ((k ≡ 12) → ⊥) → ((k ≡ 13) → ⊥) → ((k ≡ 14) → ⊥) → ((k ≡ 15) → ⊥) → ((k ≡ 16) → ⊥) → ((k ≡ 17) → ⊥) → ((k ≡ 18) → ⊥) → ((k ≡ 19) → ⊥) → operation_at k ≡ int_add
unfolding operation_at operations
sum-at zero h1 h2 h3 h4 h5 h6 h7 h8 h9 h10 h11 h12 h13 h14 h15 h16 h17 h18 h19 = refl
sum-at (suc (zero)) h1 h2 h3 h4 h5 h6 h7 h8 h9 h10 h11 h12 h13 h14 h15 h16 h17 h18 h19 = absurd (h1 refl)
sum-at (suc (suc (zero))) h1 h2 h3 h4 h5 h6 h7 h8 h9 h10 h11 h12 h13 h14 h15 h16 h17 h18 h19 = absurd (h2 refl)
sum-at (suc (suc (suc (zero)))) h1 h2 h3 h4 h5 h6 h7 h8 h9 h10 h11 h12 h13 h14 h15 h16 h17 h18 h19 = absurd (h3 refl)
sum-at (suc (suc (suc (suc (zero))))) h1 h2 h3 h4 h5 h6 h7 h8 h9 h10 h11 h12 h13 h14 h15 h16 h17 h18 h19 = absurd (h4 refl)
sum-at (suc (suc (suc (suc (suc (zero)))))) h1 h2 h3 h4 h5 h6 h7 h8 h9 h10 h11 h12 h13 h14 h15 h16 h17 h18 h19 = absurd (h5 refl)
sum-at (suc (suc (suc (suc (suc (suc (zero))))))) h1 h2 h3 h4 h5 h6 h7 h8 h9 h10 h11 h12 h13 h14 h15 h16 h17 h18 h19 = absurd (h6 refl)
sum-at (suc (suc (suc (suc (suc (suc (suc (zero)))))))) h1 h2 h3 h4 h5 h6 h7 h8 h9 h10 h11 h12 h13 h14 h15 h16 h17 h18 h19 = absurd (h7 refl)
sum-at (suc (suc (suc (suc (suc (suc (suc (suc (zero))))))))) h1 h2 h3 h4 h5 h6 h7 h8 h9 h10 h11 h12 h13 h14 h15 h16 h17 h18 h19 = absurd (h8 refl)
sum-at (suc (suc (suc (suc (suc (suc (suc (suc (suc (zero)))))))))) h1 h2 h3 h4 h5 h6 h7 h8 h9 h10 h11 h12 h13 h14 h15 h16 h17 h18 h19 = absurd (h9 refl)
sum-at (suc (suc (suc (suc (suc (suc (suc (suc (suc (suc (zero))))))))))) h1 h2 h3 h4 h5 h6 h7 h8 h9 h10 h11 h12 h13 h14 h15 h16 h17 h18 h19 = absurd (h10 refl)
sum-at (suc (suc (suc (suc (suc (suc (suc (suc (suc (suc (suc (zero)))))))))))) h1 h2 h3 h4 h5 h6 h7 h8 h9 h10 h11 h12 h13 h14 h15 h16 h17 h18 h19 = absurd (h11 refl)
sum-at (suc (suc (suc (suc (suc (suc (suc (suc (suc (suc (suc (suc (zero))))))))))))) h1 h2 h3 h4 h5 h6 h7 h8 h9 h10 h11 h12 h13 h14 h15 h16 h17 h18 h19 = absurd (h12 refl)
sum-at (suc (suc (suc (suc (suc (suc (suc (suc (suc (suc (suc (suc (suc (zero)))))))))))))) h1 h2 h3 h4 h5 h6 h7 h8 h9 h10 h11 h12 h13 h14 h15 h16 h17 h18 h19 = absurd (h13 refl)
sum-at (suc (suc (suc (suc (suc (suc (suc (suc (suc (suc (suc (suc (suc (suc (zero))))))))))))))) h1 h2 h3 h4 h5 h6 h7 h8 h9 h10 h11 h12 h13 h14 h15 h16 h17 h18 h19 = absurd (h14 refl)
sum-at (suc (suc (suc (suc (suc (suc (suc (suc (suc (suc (suc (suc (suc (suc (suc (zero)))))))))))))))) h1 h2 h3 h4 h5 h6 h7 h8 h9 h10 h11 h12 h13 h14 h15 h16 h17 h18 h19 = absurd (h15 refl)
sum-at (suc (suc (suc (suc (suc (suc (suc (suc (suc (suc (suc (suc (suc (suc (suc (suc (zero))))))))))))))))) h1 h2 h3 h4 h5 h6 h7 h8 h9 h10 h11 h12 h13 h14 h15 h16 h17 h18 h19 = absurd (h16 refl)
sum-at (suc (suc (suc (suc (suc (suc (suc (suc (suc (suc (suc (suc (suc (suc (suc (suc (suc (zero)))))))))))))))))) h1 h2 h3 h4 h5 h6 h7 h8 h9 h10 h11 h12 h13 h14 h15 h16 h17 h18 h19 = absurd (h17 refl)
sum-at (suc (suc (suc (suc (suc (suc (suc (suc (suc (suc (suc (suc (suc (suc (suc (suc (suc (suc (zero))))))))))))))))))) h1 h2 h3 h4 h5 h6 h7 h8 h9 h10 h11 h12 h13 h14 h15 h16 h17 h18 h19 = absurd (h18 refl)
sum-at (suc (suc (suc (suc (suc (suc (suc (suc (suc (suc (suc (suc (suc (suc (suc (suc (suc (suc (suc (zero)))))))))))))))))))) h1 h2 h3 h4 h5 h6 h7 h8 h9 h10 h11 h12 h13 h14 h15 h16 h17 h18 h19 = absurd (h19 refl)
sum-at (suc (suc (suc (suc (suc (suc (suc (suc (suc (suc (suc (suc (suc (suc (suc (suc (suc (suc (suc (suc (n))))))))))))))))))))) h1 h2 h3 h4 h5 h6 h7 h8 h9 h10 h11 h12 h13 h14 h15 h16 h17 h18 h19 = refl

module _ (op : ℕ) (x y z : ℤ) (fx : SFits w64 x) (fy : SFits w64 y) (k : SFits w64 z) where
  pub int_sub-word : (r : Num) → op ≡ 10 → r ≡ exact (wire x -ℤ wire y) → z ≡ word_of (integer r) → wire z ≡ word_of (compute (operation_at (op - 9)) x y)
  unfolding operation_at operations compute
  int_sub-word r o e h = to_z-of_z k ∙ h ∙ rw (e, o, to_z-of_z fx, to_z-of_z fy)

  pub int_mul-word : (r : Num) → op ≡ 11 → r ≡ exact (wire x *ℤ wire y) → z ≡ word_of (integer r) → wire z ≡ word_of (compute (operation_at (op - 9)) x y)
  unfolding operation_at operations compute
  int_mul-word r o e h = to_z-of_z k ∙ h ∙ rw (e, o, to_z-of_z fx, to_z-of_z fy)

  pub int_power-word : (r : Num) → op ≡ 12 → r ≡ power (wire x) (wire y) → z ≡ word_of (integer r) → wire z ≡ word_of (compute (operation_at (op - 9)) x y)
  unfolding operation_at operations compute
  int_power-word r o e h = to_z-of_z k ∙ h ∙ rw (e, o, to_z-of_z fx, to_z-of_z fy)

  pub int_div-word : (r : Num) → op ≡ 13 → r ≡ quotient (wire x) (wire y) → z ≡ word_of (integer r) → wire z ≡ word_of (compute (operation_at (op - 9)) x y)
  unfolding operation_at operations compute
  int_div-word r o e h = to_z-of_z k ∙ h ∙ rw (e, o, to_z-of_z fx, to_z-of_z fy)

  pub int_mod-word : (r : Num) → op ≡ 14 → r ≡ modulus (wire x) (wire y) → z ≡ word_of (integer r) → wire z ≡ word_of (compute (operation_at (op - 9)) x y)
  unfolding operation_at operations compute
  int_mod-word r o e h = to_z-of_z k ∙ h ∙ rw (e, o, to_z-of_z fx, to_z-of_z fy)

  pub set_union-word : op ≡ 15 → z ≡ set_value (union_of (members_of (wire x)) (members_of (wire y))) → wire z ≡ word_of (compute (operation_at (op - 9)) x y)
  unfolding operation_at operations compute word_of
  set_union-word o e = to_z-of_z k ∙ e ∙ rw (o, to_z-of_z fx, to_z-of_z fy)

  pub set_difference-word : op ≡ 16 → z ≡ set_value (difference_of (members_of (wire x)) (members_of (wire y))) → wire z ≡ word_of (compute (operation_at (op - 9)) x y)
  unfolding operation_at operations compute word_of
  set_difference-word o e = to_z-of_z k ∙ e ∙ rw (o, to_z-of_z fx, to_z-of_z fy)

  pub set_intersection-word : op ≡ 17 → z ≡ set_value (intersection_of (members_of (wire x)) (members_of (wire y))) → wire z ≡ word_of (compute (operation_at (op - 9)) x y)
  unfolding operation_at operations compute word_of
  set_intersection-word o e = to_z-of_z k ∙ e ∙ rw (o, to_z-of_z fx, to_z-of_z fy)

  pub num_equal-word : op ≡ 18 → z ≡ truth (equal_z (wire x) (wire y)) → wire z ≡ word_of (compute (operation_at (op - 9)) x y)
  unfolding operation_at operations compute word_of
  num_equal-word o e = to_z-of_z k ∙ e ∙ rw (o, to_z-of_z fx, to_z-of_z fy)

  pub num_unequal-word : op ≡ 19 → z ≡ truth (not (equal_z (wire x) (wire y))) → wire z ≡ word_of (compute (operation_at (op - 9)) x y)
  unfolding operation_at operations compute word_of
  num_unequal-word o e = to_z-of_z k ∙ e ∙ rw (o, to_z-of_z fx, to_z-of_z fy)

  pub num_less-word : op ≡ 20 → z ≡ truth (lt_z (wire x) (wire y)) → wire z ≡ word_of (compute (operation_at (op - 9)) x y)
  unfolding operation_at operations compute word_of
  num_less-word o e = to_z-of_z k ∙ e ∙ rw (o, to_z-of_z fx, to_z-of_z fy)

  pub num_at_most-word : op ≡ 21 → z ≡ truth (le_z (wire x) (wire y)) → wire z ≡ word_of (compute (operation_at (op - 9)) x y)
  unfolding operation_at operations compute word_of
  num_at_most-word o e = to_z-of_z k ∙ e ∙ rw (o, to_z-of_z fx, to_z-of_z fy)

  pub num_greater-word : op ≡ 22 → z ≡ truth (lt_z (wire y) (wire x)) → wire z ≡ word_of (compute (operation_at (op - 9)) x y)
  unfolding operation_at operations compute word_of
  num_greater-word o e = to_z-of_z k ∙ e ∙ rw (o, to_z-of_z fx, to_z-of_z fy)

  pub num_at_least-word : op ≡ 23 → z ≡ truth (le_z (wire y) (wire x)) → wire z ≡ word_of (compute (operation_at (op - 9)) x y)
  unfolding operation_at operations compute word_of
  num_at_least-word o e = to_z-of_z k ∙ e ∙ rw (o, to_z-of_z fx, to_z-of_z fy)

  pub set_within-word : op ≡ 24 → z ≡ truth (within (members_of (wire x)) (members_of (wire y))) → wire z ≡ word_of (compute (operation_at (op - 9)) x y)
  unfolding operation_at operations compute word_of
  set_within-word o e = to_z-of_z k ∙ e ∙ rw (o, to_z-of_z fx, to_z-of_z fy)

  pub set_holds-word : op ≡ 25 → z ≡ truth (within (members_of (wire y)) (members_of (wire x))) → wire z ≡ word_of (compute (operation_at (op - 9)) x y)
  unfolding operation_at operations compute word_of
  set_holds-word o e = to_z-of_z k ∙ e ∙ rw (o, to_z-of_z fx, to_z-of_z fy)

  pub member_of-word : op ≡ 26 → z ≡ truth (holds (wire x) (members_of (wire y))) → wire z ≡ word_of (compute (operation_at (op - 9)) x y)
  unfolding operation_at operations compute word_of
  member_of-word o e = to_z-of_z k ∙ e ∙ rw (o, to_z-of_z fx, to_z-of_z fy)

  pub bool_and-word : op ≡ 27 → z ≡ truth (is_true (wire x) && is_true (wire y)) → wire z ≡ word_of (compute (operation_at (op - 9)) x y)
  unfolding operation_at operations compute word_of
  bool_and-word o e = to_z-of_z k ∙ e ∙ rw (o, to_z-of_z fx, to_z-of_z fy)

  pub bool_or-word : op ≡ 28 → z ≡ truth (is_true (wire x) || is_true (wire y)) → wire z ≡ word_of (compute (operation_at (op - 9)) x y)
  unfolding operation_at operations compute word_of
  bool_or-word o e = to_z-of_z k ∙ e ∙ rw (o, to_z-of_z fx, to_z-of_z fy)

  pub int_add-word : (r : Num) → ((op ≡ 10) → ⊥) → ((op ≡ 11) → ⊥) → ((op ≡ 12) → ⊥) → ((op ≡ 13) → ⊥) → ((op ≡ 14) → ⊥) → ((op ≡ 15) → ⊥) → ((op ≡ 16) → ⊥) → ((op ≡ 17) → ⊥) → ((op ≡ 18) → ⊥) → ((op ≡ 19) → ⊥) → ((op ≡ 20) → ⊥) → ((op ≡ 21) → ⊥) → ((op ≡ 22) → ⊥) → ((op ≡ 23) → ⊥) → ((op ≡ 24) → ⊥) → ((op ≡ 25) → ⊥) → ((op ≡ 26) → ⊥) → ((op ≡ 27) → ⊥) → ((op ≡ 28) → ⊥) → r ≡ exact (wire x +ℤ wire y) → z ≡ word_of (integer r) → wire z ≡ word_of (compute (operation_at (op - 9)) x y)
  unfolding compute
  int_add-word r h1 h2 h3 h4 h5 h6 h7 h8 h9 h10 h11 h12 h13 h14 h15 h16 h17 h18 h19 e h = to_z-of_z k ∙ h ∙ rw (e, to_z-of_z fx, to_z-of_z fy, sum-at (op - 9) (λ q. h1 (off op 9 0 q)) (λ q. h2 (off op 9 1 q)) (λ q. h3 (off op 9 2 q)) (λ q. h4 (off op 9 3 q)) (λ q. h5 (off op 9 4 q)) (λ q. h6 (off op 9 5 q)) (λ q. h7 (off op 9 6 q)) (λ q. h8 (off op 9 7 q)) (λ q. h9 (off op 9 8 q)) (λ q. h10 (off op 9 9 q)) (λ q. h11 (off op 9 10 q)) (λ q. h12 (off op 9 11 q)) (λ q. h13 (off op 9 12 q)) (λ q. h14 (off op 9 13 q)) (λ q. h15 (off op 9 14 q)) (λ q. h16 (off op 9 15 q)) (λ q. h17 (off op 9 16 q)) (λ q. h18 (off op 9 17 q)) (λ q. h19 (off op 9 18 q)))

pub ruleset combine-laws = (int_add-word, int_sub-word, int_mul-word, int_power-word, int_div-word, int_mod-word, set_union-word, set_difference-word, set_intersection-word, num_equal-word, num_unequal-word, num_less-word, num_at_most-word, num_greater-word, num_at_least-word, set_within-word, set_holds-word, member_of-word, bool_and-word, bool_or-word, sfits_of)

-- ---- on words
pub fault-again : (x : ℤ) → lt_z greatest x ≡ true → result_of x ≡ fails (x -ℤ fault_base)
unfolding result_of pick
fault-again x h = rw h

pub value-again : (x : ℤ) → lt_z greatest x ≡ false → result_of x ≡ is x
unfolding result_of pick
value-again x h = rw h

module _ (x : ℤ) (fx : SFits w64 x) where
  above : lt_z greatest (wire x) ≡ true → lt_z greatest x ≡ true
  above h = rw (to_z-of_z fx) at h

  below : lt_z greatest (wire x) ≡ false → lt_z greatest x ≡ false
  below h = rw (to_z-of_z fx) at h

  module _ (c : Operation) (y : ℤ) where
    pub binary-left : lt_z greatest (wire x) ≡ true → wire x ≡ applied c x y
    unfolding applied word_of
    binary-left h = to_z-of_z fx ∙ rw (fault-again x (above h)) (sym (-ℤ-+ℤ_cancel x fault_base))

    module _ (fy : SFits w64 y) (h : lt_z greatest (wire x) ≡ false) where
      pub binary-right : lt_z greatest (wire y) ≡ true → wire y ≡ applied c x y
      unfolding applied word_of
      binary-right g = to_z-of_z fy ∙ rw (value-again x (below h), fault-again y (rw (to_z-of_z fy) at g)) (sym (-ℤ-+ℤ_cancel y fault_base))

      pub binary-values : (z : ℤ) → lt_z greatest (wire y) ≡ false → z ≡ word_of (compute c (wire x) (wire y)) → SFits w64 z → wire z ≡ applied c x y
      unfolding applied
      binary-values z g e k = to_z-of_z k ∙ e ∙ rw (value-again x (below h), value-again y (rw (to_z-of_z fy) at g), to_z-of_z fx, to_z-of_z fy)

  pub unary-fault : (c : Operation1) → lt_z greatest (wire x) ≡ true → wire x ≡ applied1 c x
  unfolding applied1 word_of
  unary-fault c h = to_z-of_z fx ∙ rw (fault-again x (above h)) (sym (-ℤ-+ℤ_cancel x fault_base))

  pub unary-value : (c : Operation1) (z : ℤ) → lt_z greatest (wire x) ≡ false → z ≡ word_of (compute1 c (wire x)) → SFits w64 z → wire z ≡ applied1 c x
  unfolding applied1
  unary-value c z h e k = to_z-of_z k ∙ e ∙ rw (value-again x (below h), to_z-of_z fx)

  module _ (lo hi : ℤ) (fl : SFits w64 lo) (fh : SFits w64 hi) where
    pub pred-value : (r : Num) (z : ℤ) → lt_z greatest (wire x) ≡ false → r ≡ previous (wire lo) (wire hi) (wire x) → z ≡ word_of (integer r) → SFits w64 z → wire z ≡ applied1 (pred_in lo hi) x
    unfolding applied1 compute1
    pred-value r z h e g k = to_z-of_z k ∙ g ∙ rw (e, value-again x (below h), to_z-of_z fx, to_z-of_z fl, to_z-of_z fh)

    pub succ-value : (r : Num) (z : ℤ) → lt_z greatest (wire x) ≡ false → r ≡ next (wire lo) (wire hi) (wire x) → z ≡ word_of (integer r) → SFits w64 z → wire z ≡ applied1 (succ_in lo hi) x
    unfolding applied1 compute1
    succ-value r z h e g k = to_z-of_z k ∙ g ∙ rw (e, value-again x (below h), to_z-of_z fx, to_z-of_z fl, to_z-of_z fh)

    pub test_in : (b : Bool) → lt_z greatest (wire x) ≡ false → b ≡ inside (wire lo) (wire hi) (wire x) → b ≡ true → wire x ≡ tested_word lo hi x
    unfolding tested_word tested pick word_of
    test_in b h e g = rw (value-again x (below h)) (rw (to_z-of_z fx) (rw (sym (rw (to_z-of_z fx, to_z-of_z fl, to_z-of_z fh) at e) ∙ g)))

    pub test-out : (b : Bool) → lt_z greatest (wire x) ≡ false → b ≡ inside (wire lo) (wire hi) (wire x) → b ≡ false → range_word ≡ tested_word lo hi x
    unfolding tested_word tested pick word_of
    test-out b h e g = rw (value-again x (below h)) (rw (sym (rw (to_z-of_z fx, to_z-of_z fl, to_z-of_z fh) at e) ∙ g))

  pub test-fault : (lo hi : ℤ) → lt_z greatest (wire x) ≡ true → wire x ≡ tested_word lo hi x
  unfolding tested_word word_of
  test-fault lo hi h = to_z-of_z fx ∙ rw (fault-again x (above h)) (sym (-ℤ-+ℤ_cancel x fault_base))

pub ruleset binary-laws = (binary-left, binary-right, binary-values, sfits_of)

pub ruleset unary-laws = (unary-fault, unary-value, pred-value, succ-value, sfits_of)

pub ruleset test_laws = (test_in, test-out, test-fault)

-- ---- one-sided operators
pub negated-yes : (x : ℤ) → SFits w64 x → lt_z (pos 0) (wire x) ≡ true → pos 0 ≡ truth (not (is_true x))
unfolding truth
negated-yes x f h = rw (rw (to_z-of_z f) at h)

pub negated-no : (x : ℤ) → SFits w64 x → lt_z (pos 0) (wire x) ≡ false → pos 1 ≡ truth (not (is_true x))
unfolding truth
negated-no x f h = rw (rw (to_z-of_z f) at h)

pub ruleset negated_laws = (negated-yes, negated-no)

negate-at : (k : ℕ) → ((k ≡ 1) → ⊥) → ((k ≡ 2) → ⊥) → ((k ≡ 3) → ⊥) → ((k ≡ 4) → ⊥) → ((k ≡ 5) → ⊥) → ((k ≡ 6) → ⊥) → ((k ≡ 7) → ⊥) → ((k ≡ 8) → ⊥) → operation1_at k ≡ int_negate
unfolding operation1_at operations1
negate-at zero h1 h2 h3 h4 h5 h6 h7 h8 = refl
negate-at (suc (zero)) h1 h2 h3 h4 h5 h6 h7 h8 = absurd (h1 refl)
negate-at (suc (suc (zero))) h1 h2 h3 h4 h5 h6 h7 h8 = absurd (h2 refl)
negate-at (suc (suc (suc (zero)))) h1 h2 h3 h4 h5 h6 h7 h8 = absurd (h3 refl)
negate-at (suc (suc (suc (suc (zero))))) h1 h2 h3 h4 h5 h6 h7 h8 = absurd (h4 refl)
negate-at (suc (suc (suc (suc (suc (zero)))))) h1 h2 h3 h4 h5 h6 h7 h8 = absurd (h5 refl)
negate-at (suc (suc (suc (suc (suc (suc (zero))))))) h1 h2 h3 h4 h5 h6 h7 h8 = absurd (h6 refl)
negate-at (suc (suc (suc (suc (suc (suc (suc (zero)))))))) h1 h2 h3 h4 h5 h6 h7 h8 = absurd (h7 refl)
negate-at (suc (suc (suc (suc (suc (suc (suc (suc (zero))))))))) h1 h2 h3 h4 h5 h6 h7 h8 = absurd (h8 refl)
negate-at (suc (suc (suc (suc (suc (suc (suc (suc (suc (n)))))))))) h1 h2 h3 h4 h5 h6 h7 h8 = refl

module _ (op : ℕ) (x : ℤ) (fx : SFits w64 x) where
  pub ordinal-word : op ≡ 34 → wire x ≡ word_of (compute1 (operation1_at (op - 29)) x)
  unfolding operation1_at operations1 compute1 word_of
  ordinal-word o = to_z-of_z fx ∙ rw o

  pub card-word : (p n : ℕ) → op ≡ 35 → p ≡ pattern_of (wire x) → n ≡ length (members p) → to_z w64 n ≡ word_of (compute1 (operation1_at (op - 29)) x)
  unfolding operation1_at operations1 compute1 word_of members_of
  card-word p n o e f = to_z_pos w64 {n = n} (omega (arith, f, members-length p)) ∙ rw (o) (ap pos (f ∙ rw (e, to_z-of_z fx)))

  module _ (z : ℤ) (k : SFits w64 z) where
    pub not-word : op ≡ 30 → z ≡ truth (not (is_true (wire x))) → wire z ≡ word_of (compute1 (operation1_at (op - 29)) x)
    unfolding operation1_at operations1 compute1 word_of
    not-word o e = to_z-of_z k ∙ e ∙ rw (o, to_z-of_z fx)

    pub abs_word : (r : Num) → op ≡ 31 → r ≡ exact (pos (nat_abs (wire x))) → z ≡ word_of (integer r) → wire z ≡ word_of (compute1 (operation1_at (op - 29)) x)
    unfolding operation1_at operations1 compute1
    abs_word r o e h = to_z-of_z k ∙ h ∙ rw (e, o, to_z-of_z fx)

    pub sqr-word : (r : Num) → op ≡ 32 → r ≡ exact (wire x *ℤ wire x) → z ≡ word_of (integer r) → wire z ≡ word_of (compute1 (operation1_at (op - 29)) x)
    unfolding operation1_at operations1 compute1
    sqr-word r o e h = to_z-of_z k ∙ h ∙ rw (e, o, to_z-of_z fx)

    pub odd-word : (b : Bool) → op ≡ 33 → b ≡ is_odd (wire x) → z ≡ truth b → wire z ≡ word_of (compute1 (operation1_at (op - 29)) x)
    unfolding operation1_at operations1 compute1 word_of
    odd-word b o e h = to_z-of_z k ∙ h ∙ rw (e, o, to_z-of_z fx)

    pub least-word : (p : ℕ) (m : Option ℕ) → op ≡ 36 → p ≡ pattern_of (wire x) → m ≡ least (members p) → z ≡ word_of (member_in m) → wire z ≡ word_of (compute1 (operation1_at (op - 29)) x)
    unfolding operation1_at operations1 compute1 members_of
    least-word p m o e f h = to_z-of_z k ∙ h ∙ rw (f, e, o, to_z-of_z fx)

    pub greatest-word : (p : ℕ) (m : Option ℕ) → op ≡ 37 → p ≡ pattern_of (wire x) → m ≡ greatest_of (members p) → z ≡ word_of (member_in m) → wire z ≡ word_of (compute1 (operation1_at (op - 29)) x)
    unfolding operation1_at operations1 compute1 members_of
    greatest-word p m o e f h = to_z-of_z k ∙ h ∙ rw (f, e, o, to_z-of_z fx)

    pub negate_word : (r : Num) → ((op ≡ 30) → ⊥) → ((op ≡ 31) → ⊥) → ((op ≡ 32) → ⊥) → ((op ≡ 33) → ⊥) → ((op ≡ 34) → ⊥) → ((op ≡ 35) → ⊥) → ((op ≡ 36) → ⊥) → ((op ≡ 37) → ⊥) → r ≡ exact (neg_ℤ (wire x)) → z ≡ word_of (integer r) → wire z ≡ word_of (compute1 (operation1_at (op - 29)) x)
    unfolding compute1
    negate_word r h1 h2 h3 h4 h5 h6 h7 h8 e h = to_z-of_z k ∙ h ∙ rw (e, to_z-of_z fx, negate-at (op - 29) (λ q. h1 (off op 29 0 q)) (λ q. h2 (off op 29 1 q)) (λ q. h3 (off op 29 2 q)) (λ q. h4 (off op 29 3 q)) (λ q. h5 (off op 29 4 q)) (λ q. h6 (off op 29 5 q)) (λ q. h7 (off op 29 6 q)) (λ q. h8 (off op 29 7 q)))

pub ruleset change-laws = (ordinal-word, card-word, not-word, abs_word, sqr-word, odd-word, least-word, greatest-word, negate_word, sfits_of)
