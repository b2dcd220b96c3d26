-- The heads and atoms as the code finds them: by the arms of a match on a number, and by a word's kind.
use mathlib.Core.Path.{◌≡◌}
use Prim.Native.Nat.{ℕ}
use lib.Dec.{eqb}
use borrow.Author.Tests.{ne_eqb}
use lib.IntN.{ℤ}
use mir.Val.{SFits, to_z, of_z}
use mir.Facts.{to_z-of_z}
use mir.Syntax.{w64}
use Rattle.leaf_words.specs.declared.words.Word as Kind
use Rattle.leaf_words.specs.declared.words.Word.TheVariants as W
use Rattle.text_heads.specs.Heads.{reserved_expr, operator_expr, reserved_verb, operator_verb, reserved_arm, reserved_maker, reserved_line, reserved_atom, reserved_expr_by, operator_expr_by, reserved_verb_by, operator_verb_by, reserved_arm_by, reserved_maker_by, reserved_line_by, reserved_atom_by, expr_head_of, verb_of, arm_head_of, maker_of, line_head_of, atom_of, is_exception}
use Rattle.text_heads.specs.declared.ExprHead as ExprHead
use Rattle.text_heads.specs.declared.ExprHead.TheVariants as EH
use Rattle.text_heads.specs.declared.Verb as Verb
use Rattle.text_heads.specs.declared.Verb.TheVariants as VB
use Rattle.text_heads.specs.declared.ArmHead as ArmHead
use Rattle.text_heads.specs.declared.ArmHead.TheVariants as AH
use Rattle.text_heads.specs.declared.Maker as Maker
use Rattle.text_heads.specs.declared.Maker.TheVariants as MK
use Rattle.text_heads.specs.declared.LineHead as LineHead
use Rattle.text_heads.specs.declared.LineHead.TheVariants as LH
use Rattle.text_heads.specs.declared.Atom as Atom
use Rattle.text_heads.specs.declared.Atom.TheVariants as AT

module _ (k : ℕ) where
  -- a number that no arm names
  pub no-reserved-expr : ((k ≡ 19) → ⊥) → ((k ≡ 20) → ⊥) → ((k ≡ 21) → ⊥) → ((k ≡ 22) → ⊥) → ((k ≡ 23) → ⊥) → ((k ≡ 24) → ⊥) →
      ((k ≡ 25) → ⊥) → ((k ≡ 26) → ⊥) → ((k ≡ 27) → ⊥) → ((k ≡ 28) → ⊥) → ((k ≡ 29) → ⊥) → ((k ≡ 30) → ⊥) →
      ((k ≡ 31) → ⊥) → ((k ≡ 32) → ⊥) → ((k ≡ 33) → ⊥) → ((k ≡ 34) → ⊥) → ((k ≡ 35) → ⊥) → ((k ≡ 36) → ⊥) →
      ((k ≡ 37) → ⊥) → ((k ≡ 38) → ⊥) → ((k ≡ 39) → ⊥) → ((k ≡ 40) → ⊥) → EH.Nothing ≡ reserved_expr k
  unfolding reserved_expr
  no-reserved-expr h19 h20 h21 h22 h23 h24 h25 h26 h27 h28 h29 h30 h31 h32 h33 h34 h35 h36 h37 h38 h39 h40 = simp (ne_eqb _ _ h19, ne_eqb _ _ h20, ne_eqb _ _ h21, ne_eqb _ _ h22, ne_eqb _ _ h23, ne_eqb _ _ h24, ne_eqb _ _ h25, ne_eqb _ _ h26, ne_eqb _ _ h27, ne_eqb _ _ h28, ne_eqb _ _ h29, ne_eqb _ _ h30, ne_eqb _ _ h31, ne_eqb _ _ h32, ne_eqb _ _ h33, ne_eqb _ _ h34, ne_eqb _ _ h35, ne_eqb _ _ h36, ne_eqb _ _ h37, ne_eqb _ _ h38, ne_eqb _ _ h39, ne_eqb _ _ h40)

  pub no-operator-expr : ((k ≡ 1) → ⊥) → ((k ≡ 2) → ⊥) → ((k ≡ 3) → ⊥) → ((k ≡ 4) → ⊥) → ((k ≡ 5) → ⊥) → ((k ≡ 6) → ⊥) →
      ((k ≡ 7) → ⊥) → ((k ≡ 8) → ⊥) → ((k ≡ 9) → ⊥) → ((k ≡ 10) → ⊥) → EH.Nothing ≡ operator_expr k
  unfolding operator_expr
  no-operator-expr h1 h2 h3 h4 h5 h6 h7 h8 h9 h10 = simp (ne_eqb _ _ h1, ne_eqb _ _ h2, ne_eqb _ _ h3, ne_eqb _ _ h4, ne_eqb _ _ h5, ne_eqb _ _ h6, ne_eqb _ _ h7, ne_eqb _ _ h8, ne_eqb _ _ h9, ne_eqb _ _ h10)

  pub no-reserved-verb : ((k ≡ 10) → ⊥) → ((k ≡ 11) → ⊥) → ((k ≡ 12) → ⊥) → ((k ≡ 13) → ⊥) → ((k ≡ 14) → ⊥) → ((k ≡ 17) → ⊥) →
      ((k ≡ 18) → ⊥) → VB.Nothing ≡ reserved_verb k
  unfolding reserved_verb
  no-reserved-verb h10 h11 h12 h13 h14 h17 h18 = simp (ne_eqb _ _ h10, ne_eqb _ _ h11, ne_eqb _ _ h12, ne_eqb _ _ h13, ne_eqb _ _ h14, ne_eqb _ _ h17, ne_eqb _ _ h18)

  pub no-operator-verb : ((k ≡ 0) → ⊥) → VB.Nothing ≡ operator_verb k
  unfolding operator_verb
  no-operator-verb h0 = simp (ne_eqb _ _ h0)

  pub no-reserved-arm : ((k ≡ 15) → ⊥) → ((k ≡ 16) → ⊥) → AH.Nothing ≡ reserved_arm k
  unfolding reserved_arm
  no-reserved-arm h15 h16 = simp (ne_eqb _ _ h15, ne_eqb _ _ h16)

  pub no-reserved-maker : ((k ≡ 5) → ⊥) → ((k ≡ 6) → ⊥) → ((k ≡ 7) → ⊥) → ((k ≡ 8) → ⊥) → ((k ≡ 9) → ⊥) → MK.Nothing ≡ reserved_maker k
  unfolding reserved_maker
  no-reserved-maker h5 h6 h7 h8 h9 = simp (ne_eqb _ _ h5, ne_eqb _ _ h6, ne_eqb _ _ h7, ne_eqb _ _ h8, ne_eqb _ _ h9)

  pub no-reserved-line : ((k ≡ 0) → ⊥) → ((k ≡ 1) → ⊥) → ((k ≡ 2) → ⊥) → ((k ≡ 3) → ⊥) → LH.Nothing ≡ reserved_line k
  unfolding reserved_line
  no-reserved-line h0 h1 h2 h3 = simp (ne_eqb _ _ h0, ne_eqb _ _ h1, ne_eqb _ _ h2, ne_eqb _ _ h3)

  pub no-reserved-atom : ((k ≡ 41) → ⊥) → ((k ≡ 42) → ⊥) → ((k ≡ 43) → ⊥) → ((k ≡ 44) → ⊥) → ((k ≡ 45) → ⊥) → AT.Nothing ≡ reserved_atom k
  unfolding reserved_atom
  no-reserved-atom h41 h42 h43 h44 h45 = simp (ne_eqb _ _ h41, ne_eqb _ _ h42, ne_eqb _ _ h43, ne_eqb _ _ h44, ne_eqb _ _ h45)

  -- the number n of an arm
  pub at-reserved-expr : (n : ℕ) (h : ExprHead.ExprHead) → k ≡ n → h ≡ reserved_expr_by n → h ≡ reserved_expr k
  unfolding reserved_expr
  at-reserved-expr n h e f = rw e f

  pub at-operator-expr : (n : ℕ) (h : ExprHead.ExprHead) → k ≡ n → h ≡ operator_expr_by n → h ≡ operator_expr k
  unfolding operator_expr
  at-operator-expr n h e f = rw e f

  pub at-reserved-verb : (n : ℕ) (h : Verb.Verb) → k ≡ n → h ≡ reserved_verb_by n → h ≡ reserved_verb k
  unfolding reserved_verb
  at-reserved-verb n h e f = rw e f

  pub at-operator-verb : (n : ℕ) (h : Verb.Verb) → k ≡ n → h ≡ operator_verb_by n → h ≡ operator_verb k
  unfolding operator_verb
  at-operator-verb n h e f = rw e f

  pub at-reserved-arm : (n : ℕ) (h : ArmHead.ArmHead) → k ≡ n → h ≡ reserved_arm_by n → h ≡ reserved_arm k
  unfolding reserved_arm
  at-reserved-arm n h e f = rw e f

  pub at-reserved-maker : (n : ℕ) (h : Maker.Maker) → k ≡ n → h ≡ reserved_maker_by n → h ≡ reserved_maker k
  unfolding reserved_maker
  at-reserved-maker n h e f = rw e f

  pub at-reserved-line : (n : ℕ) (h : LineHead.LineHead) → k ≡ n → h ≡ reserved_line_by n → h ≡ reserved_line k
  unfolding reserved_line
  at-reserved-line n h e f = rw e f

  pub at-reserved-atom : (n : ℕ) (h : Atom.Atom) → k ≡ n → h ≡ reserved_atom_by n → h ≡ reserved_atom k
  unfolding reserved_atom
  at-reserved-atom n h e f = rw e f

pub ruleset number-laws = (no-reserved-expr, no-operator-expr, no-reserved-verb, no-operator-verb, no-reserved-arm, no-reserved-maker, no-reserved-line, no-reserved-atom, at-reserved-expr, at-operator-expr, at-reserved-verb, at-operator-verb, at-reserved-arm, at-reserved-maker, at-reserved-line, at-reserved-atom)

-- ---- by kind

module _ (w : Kind.Word) (k : ℕ) where
  pub by-expr-head : (h : ExprHead.ExprHead) → w ≡ W.Reserved k → h ≡ reserved_expr k → h ≡ expr_head_of w
  by-expr-head h e f = rw e f

  pub by-expr-head-operator : (h : ExprHead.ExprHead) → w ≡ W.Operator k → h ≡ operator_expr k → h ≡ expr_head_of w
  by-expr-head-operator h e f = rw e f

  pub by-verb-of : (h : Verb.Verb) → w ≡ W.Reserved k → h ≡ reserved_verb k → h ≡ verb_of w
  by-verb-of h e f = rw e f

  pub by-verb-of-operator : (h : Verb.Verb) → w ≡ W.Operator k → h ≡ operator_verb k → h ≡ verb_of w
  by-verb-of-operator h e f = rw e f

  pub by-arm-head : (h : ArmHead.ArmHead) → w ≡ W.Reserved k → h ≡ reserved_arm k → h ≡ arm_head_of w
  by-arm-head h e f = rw e f

  pub by-maker-of : (h : Maker.Maker) → w ≡ W.Reserved k → h ≡ reserved_maker k → h ≡ maker_of w
  by-maker-of h e f = rw e f

  pub by-line-head : (h : LineHead.LineHead) → w ≡ W.Reserved k → h ≡ reserved_line k → h ≡ line_head_of w
  by-line-head h e f = rw e f

  pub by-atom-of : (h : Atom.Atom) → w ≡ W.Reserved k → h ≡ reserved_atom k → h ≡ atom_of w
  by-atom-of h e f = rw e f

  pub by-exception : w ≡ W.Reserved k → eqb k 4 ≡ is_exception w
  by-exception e = rw e

pub is_number : (w : Kind.Word) (z : ℤ) → w ≡ W.Number z → SFits w64 z → AT.Number (to_z w64 (of_z w64 z)) ≡ atom_of w
is_number w z e f = rw (e, to_z-of_z f)

pub ruleset kind-laws = (by-expr-head, by-expr-head-operator, by-verb-of, by-verb-of-operator, by-arm-head, by-maker-of, by-line-head, by-atom-of, by-exception, is_number)
