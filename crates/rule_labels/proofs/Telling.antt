-- What marks tell of labels: the values that they stand for.
use mathlib.Core.Path.{◌≡◌, refl, sym, ap, ◌∙◌, subst}
use mathlib.Core.Bool.{Bool, true, false, false≢true, true≢false}
use mathlib.Core.List.{List, [], map}
use mathlib.Core.Option.{Option, none, some}
use Prim.Native.Nat.{ℕ, ◌<◌}
use native.Mathlib.Omega.{arith}
use borrow.Author.Tests.{eq-eqb, eqb-true}
use lib.Dec.{eqb}
use lib.IntN.{ℤ, pos, negsuc, neg_ℤ, ◌-ℤ◌, ◌+ℤ◌, +ℤ_invr, +ℤ_idl, -ℤ-+ℤ_cancel}
use mir.Val.{SFits, to_z, of_z}
use mir.Facts.{to_z-of_z}
use borrow.Author.Rules.{sfits_of}
use mir.Syntax.{w64}
use Rattle.leaf_integers.specs.Integers.{is_zero}
use Rattle.leaf_integers.proofs.Machine.{wire, same_bits}
use Rattle.leaf_integers.proofs.Ranges.{is-zero, not-zero}
use Rattle.leaf_bytes.specs.Bytes.{small}
use Rattle.leaf_words.specs.Words.{word_of}
use Rattle.leaf_words.specs.declared.words.Word.{Word}
use Rattle.law.specs.Base.{◌>>=◌}
use Rattle.law.specs.Calculate.{truth, equal_z}
use Rattle.law.specs.Environment.{Environment, NameSort, a_type, a_var, a_proc, a_value}
use Rattle.law.specs.Names.{constant_of, const_of, as_value}
use Rattle.law.specs.Rules.{plain}
use Rattle.law.specs.Script.{Const}
use Rattle.rule_stages.specs.Stages.{fits, ruled, named, staged}
use Rattle.law.specs.Syntax as Syntax
use Rattle.law.specs.Syntax.{Constant, number, minus}
use Rattle.law.specs.Trees.{word, form, Trees, end, ◌then◌, Run, first, word_at}
use Rattle.law_theorems.specs.Readings.{stack_at}
use Rattle.law_theorems.proofs.Inversion.{none-some, some_inj, bind-some}
use Rattle.text_heads.specs.Heads.{atom_of, atom_constant, expr_head_of, minus_pick}
use Rattle.text_heads.specs.Parts.{rest, closed, number_in, constant_by}
use Rattle.text_heads.specs.declared.Atom.{Atom}
use Rattle.text_heads.specs.declared.Atom.TheVariants as AT
use Rattle.text_heads.specs.declared.ExprHead.{ExprHead}
use Rattle.text_heads.specs.declared.ExprHead.TheVariants as EH
use Rattle.text_heads.proofs.Expressions.{constant-form, constant-empty, constant-headless}
use Rattle.table_scope.specs.declared.Scope.{Scope}
use Rattle.table_scope.specs.declared.Meaning.{Meaning}
use Rattle.table_scope.specs.declared.Meaning.TheVariants as meaning
use Rattle.table_scope.specs.Scene.{Means, a-type, a-var, a-proc, a-value, Told, unknown, known, meaning_here}
use Rattle.table_scope.proofs.Telling.{meant}
use Rattle.rule_faults.specs.Got.{is_form, fault_of}
use Rattle.rule_atoms.specs.declared.Valued.{Valued}
use Rattle.rule_atoms.specs.Answering.{GivesMinus, minus_form}
use Rattle.rule_labels.specs.declared.Mark.{Mark}
use Rattle.rule_labels.specs.declared.Mark.TheVariants as mark
use Rattle.rule_labels.specs.declared.Hop.TheVariants as hop
use Rattle.rule_labels.specs.Hops.{MarkIs, a-number, a-truth, a-name, Tells, Marked}
use Rattle.rule_labels.specs.Blocks.{ordinal_in, value_at, Held}

-- ---- integers

less-self : (x : ℤ) → x -ℤ x ≡ pos 0
less-self x = +ℤ_invr x

pub equal-self : (x : ℤ) → equal_z x x ≡ true
equal-self x = is-zero (x -ℤ x) (less-self x)

pub equal_is : (x y : ℤ) → equal_z x y ≡ true → x ≡ y
unfolding is_zero
equal_is x y h = sym (-ℤ-+ℤ_cancel x y) ∙ ap (λ (z : ℤ). z +ℤ y) (zero_is (x -ℤ y) h) ∙ +ℤ_idl y
  where
    zero_is : (z : ℤ) → is_zero z ≡ true → z ≡ pos 0
    zero_is (pos n) h = ap pos (eqb-true n 0 h)
    zero_is (negsuc n) h = absurd (false≢true h)

equal-not : (x y : ℤ) → (x ≡ y → ⊥) → equal_z x y ≡ false
equal-not x y h = not-zero (x -ℤ y) (λ e. h (sym (-ℤ-+ℤ_cancel x y) ∙ ap (λ (z : ℤ). z +ℤ y) e ∙ +ℤ_idl y))

pub number_same : (x y : ℤ) → SFits w64 x → SFits w64 y → of_z w64 x ≡ of_z w64 y → true ≡ equal_z x y
number_same x y p q e = let h : x ≡ y = same_bits x y p q e in sym (rw h (equal-self y))

pub number-other : (x y : ℤ) → (of_z w64 x ≡ of_z w64 y → ⊥) → false ≡ equal_z x y
number-other x y h = sym (equal-not x y (λ e. h (ap (of_z w64) e)))

pub number-eqb : (x y : ℤ) → SFits w64 x → SFits w64 y → eqb (of_z w64 x) (of_z w64 y) ≡ equal_z x y
number-eqb x y p q = go (eqb (of_z w64 x) (of_z w64 y)) refl
  where
    go : (t : Bool) → eqb (of_z w64 x) (of_z w64 y) ≡ t → t ≡ equal_z x y
    go true e = number_same x y p q (eqb-true _ _ e)
    go false e = number-other x y (λ h. true≢false (sym (eq-eqb _ _ h) ∙ e))

-- ---- the value of a label

const-is : (x y : Const) → x.kind ≡ y.kind → x.value ≡ y.value → x ≡ y
const-is x y h k = ap (λ (j : ℕ). const_of j x.value) h ∙ ap (λ (z : ℤ). const_of y.kind z) k

pub truth-true : (b : Bool) → b ≡ true → pos 1 ≡ truth b
unfolding truth
truth-true b e = rw e refl

pub truth-false : (b : Bool) → b ≡ false → pos 0 ≡ truth b
unfolding truth
truth-false b e = rw e refl

pub ruleset truth_laws = (truth-true, truth-false)

pub wide_is : (n : ℕ) → n < 4294967296 → to_z w64 n ≡ pos n
wide_is n h = to_z-of_z {w = w64} {z = pos n} (record { sfits = omega arith })

module _ (m : Meaning) where
  pub ordinal-is : (k n : ℕ) → m ≡ meaning.Value k n → n < 4294967296 → to_z w64 n ≡ ordinal_in m
  ordinal-is k n e h = rw e (wide_is n h)

  pub ordinal-none : ((k n : ℕ) → m ≡ meaning.Value k n → ⊥) → pos 0 ≡ ordinal_in m
  ordinal-none f = go m refl
    where
      go : (x : Meaning) → m ≡ x → pos 0 ≡ ordinal_in m
      go meaning.Unknown e = rw e refl
      go (meaning.Type t) e = rw e refl
      go (meaning.Var i t a) e = rw e refl
      go (meaning.Proc p) e = rw e refl
      go (meaning.Value k n) e = absurd (f k n e)

pub ruleset ordinal_laws = (ordinal-none, ordinal-is)

module _ (s l : List ℕ) (scope : Scope) (m : Mark) where
  pub value-number : (z : ℤ) → m ≡ mark.Number z → SFits w64 z → wire z ≡ value_at s l scope m
  value-number z e p = let i = to_z-of_z p in rw e i

  pub value-truth : (b : Bool) (r : ℤ) → m ≡ mark.Truth b → r ≡ truth b → SFits w64 r → wire r ≡ value_at s l scope m
  value-truth b r e f p = let i = to_z-of_z p in rw e (i ∙ f)

  pub value-name : (p : ℕ) (x : Meaning) (r : ℤ) → m ≡ mark.Named p → x ≡ meaning_here s l scope p → r ≡ ordinal_in x → SFits w64 r → wire r ≡ value_at s l scope m
  value-name p x r e f g q = let i = to_z-of_z q in rw e (i ∙ g ∙ ap ordinal_in f)

pub ruleset value_laws = (value-number, value-truth, value-name, sfits_of)

-- the meaning of an enum name in the tables has its ordinal
ordinal-means : {σ : Environment} {bs : List ℕ} {y : Meaning} {n : NameSort} (x : Const) → Means σ bs y n → n ≡ a_value x → ordinal_in y ≡ x.value
ordinal-means x a-type e = none-some (ap as_value e)
ordinal-means x (a-var v h) e = none-some (ap as_value e)
ordinal-means x a-proc e = none-some (ap as_value e)
ordinal-means x (a-value {k} {n}) e = ap (λ (c : Const). c.value) (some_inj (ap as_value e))

ordinal-told : {σ : Environment} {bs : List ℕ} {y : Meaning} {o : Option NameSort} (x : Const) → Told σ bs y o → o ≡ some (a_value x) → ordinal_in y ≡ x.value
ordinal-told x unknown e = none-some e
ordinal-told x (known M) e = ordinal-means x M (some_inj e)

-- the value by the tables is that of the label
pub value-told : {s l : List ℕ} {scope : Scope} {σ : Environment} {m : Mark} {x : Const} → Held s l scope σ → MarkIs s σ m x → value_at s l scope m ≡ x.value
value-told H (a-number z) = refl
value-told H (a-truth b) = refl
value-told {s} H (a-name p x h) = ordinal-told x (meant H.scene (map small (word_at s p))) h

-- ---- a word as a label

tells-number : (s : List ℕ) (z : ℤ) → Tells s (mark.Number z) (number z)
unfolding constant_of
tells-number s z = record { tells = λ σ x h i. subst (MarkIs s σ (mark.Number z)) (some_inj h) (a-number z) }

tells-truth : (s : List ℕ) (b : Bool) → Tells s (mark.Truth b) (Syntax.truth b)
unfolding constant_of
tells-truth s b = record { tells = λ σ x h i. subst (MarkIs s σ (mark.Truth b)) (some_inj h) (a-truth b) }

tells-name : (s : List ℕ) (p : ℕ) → Tells s (mark.Named p) (Syntax.named (map small (word_at s p)))
unfolding constant_of
tells-name s p = record { tells = λ σ x h i. bind-some h λ m hm e. a-name p x (hm ∙ ap some (value-of m x e)) }
  where
    value-of : (m : NameSort) (x : Const) → as_value m ≡ some x → m ≡ a_value x
    value-of (a_type t) x e = none-some e
    value-of (a_var i) x e = none-some e
    value-of (a_proc q ts) x e = none-some e
    value-of (a_value c) x e = ap a_value (some_inj e)

module _ (s : List ℕ) (w : Word) (p q : ℕ) (a : Atom) (e : a ≡ atom_of w) where
  pub word_number : (z : ℤ) → a ≡ AT.Number z → SFits w64 z → Marked s (atom_constant (atom_of w) (map small (word_at s p))) q (hop.Label (mark.Number (wire z)) q)
  word_number z f h = rw (← e, f, to_z-of_z h) (record { says = (refl, (number z, (refl, tells-number s z))) })

  pub word-name : a ≡ AT.Named → Marked s (atom_constant (atom_of w) (map small (word_at s p))) q (hop.Label (mark.Named p) q)
  word-name f = rw (← e, f) (record { says = (refl, (Syntax.named (map small (word_at s p)), (refl, tells-name s p))) })

  pub word-truth : (b : Bool) → a ≡ AT.Truth b → Marked s (atom_constant (atom_of w) (map small (word_at s p))) q (hop.Label (mark.Truth b) q)
  word-truth b f = rw (← e, f) (record { says = (refl, (Syntax.truth b, (refl, tells-truth s b))) })

  pub word-other : ((z : ℤ) → a ≡ AT.Number z → ⊥) → (a ≡ AT.Named → ⊥) → ((b : Bool) → a ≡ AT.Truth b → ⊥) → Marked s (atom_constant (atom_of w) (map small (word_at s p))) q (hop.Over q)
  word-other f g h = rw (← e) (record { says = (refl, go a refl) })
    where
      go : (x : Atom) → a ≡ x → atom_constant x (map small (word_at s p)) ≡ none
      go (AT.Number z) i = absurd (f z i)
      go AT.Named i = absurd (g i)
      go (AT.Truth b) i = absurd (h b i)
      go AT.ErrorNumber i = refl
      go (AT.Base b) i = refl
      go AT.Nothing i = refl

pub ruleset word_laws = (word_number, word-name, word-truth, word-other, sfits_of)

-- ---- `(- number)` as a label

minus-picked : (o : Option Constant) (h : ExprHead) (c : Constant) → minus_pick o h ≡ some c → o ≡ some c
minus-picked o EH.At c e = none-some e
minus-picked o EH.Dot c e = none-some e
minus-picked o EH.Members c e = none-some e
minus-picked o EH.Minus c e = e
minus-picked o (EH.Bound b) c e = none-some e
minus-picked o (EH.Short b) c e = none-some e
minus-picked o (EH.Two k) c e = none-some e
minus-picked o (EH.One k) c e = none-some e
minus-picked o EH.Nothing c e = none-some e

closed_is : {A : Type 0} (us : Trees Run) (a b : A) → closed us a ≡ some b → a ≡ b
unfolding closed
closed_is end a b h = some_inj h
closed_is (t then ts) a b h = none-some h

minus-only : (us : Trees Run) (c : Constant) → minus_form us ≡ some c → (z : ℤ) × (minus z ≡ c)
unfolding minus_form constant_by
minus-only end c h = none-some (sym (constant-empty end) ∙ h)
minus-only (form us then vs) c h = none-some (sym (constant-headless us vs end) ∙ h)
minus-only (word w then us) c h =
    bind-some (minus-picked (number_in us >>= λ z. closed (rest us) (minus z)) (expr_head_of (word_of w)) c (sym (constant-form w us end) ∙ h))
    λ z hz e. (z, closed_is (rest us) (minus z) c e)

minus-kind : (σ : Environment) (us : Trees Run) (c : Constant) (x : Const) → minus_form us ≡ some c → constant_of σ c ≡ some x → x.kind ≡ 0
unfolding constant_of
minus-kind σ us c x h k =
    let g = minus-only us c h in
    let i : some (const_of 0 (neg_ℤ g.0)) ≡ some x = ap (constant_of σ) g.1 ∙ k in
    sym (ap (λ (y : Const). y.kind) (some_inj i))

staged-fits : (σ : Environment) (o : Option Constant) (c : Constant) (x : Const) → o ≡ some c → constant_of σ c ≡ some x → plain x ≡ true → staged o (constant_of σ) plain some ≡ fits x
unfolding staged named ruled
staged-fits σ o c x e h k = rw (e, h, k) refl

module _ (s : List ℕ) (p q : ℕ) (v : Valued) (G : GivesMinus s p (minus_form (first (stack_at s p))) v) (t : Bool) (e : t ≡ is_form v.fault) where
  minus-tells : (c : Constant) → minus_form (first (stack_at s p)) ≡ some c → Tells s (mark.Number v.value) c
  minus-tells c h = record {
    tells = λ σ x k i.
        let g = (G.says σ).value-is x (staged-fits σ (minus_form (first (stack_at s p))) c x h k i) in
        let j : const_of 0 v.value ≡ x = const-is (const_of 0 v.value) x (sym (minus-kind σ (first (stack_at s p)) c x h k)) g.1 in
        subst (MarkIs s σ (mark.Number v.value)) j (a-number v.value);
  }

  -- the form alone decides whether there is a fault of row 6
  abbrev nobody : Environment
  nobody = record { names = []; types = []; vars = []; parameters = [] }

  staged-wrong : (o : Option Constant) → is_form (fault_of (staged o (constant_of nobody) plain some)) ≡ true → o ≡ none
  unfolding staged named ruled
  staged-wrong none h = refl
  staged-wrong (some c) h = absurd (go (constant_of nobody c) h)
    where
      ruled-not : (b : Bool) (x : Const) → is_form (fault_of (ruled b (some x))) ≡ true → ⊥
      ruled-not true x h = false≢true h
      ruled-not false x h = false≢true h

      go : (u : Option Const) → is_form (fault_of (named u plain some)) ≡ true → ⊥
      go none h = false≢true h
      go (some x) h = ruled-not (plain x) x h

  pub minus-over : t ≡ true → Marked s (minus_form (first (stack_at s p))) q (hop.Over q)
  minus-over h = record { says = (refl, staged-wrong (minus_form (first (stack_at s p))) (sym (ap is_form (G.says nobody).fault-is) ∙ sym e ∙ h)) }

  pub minus-label : t ≡ false → SFits w64 v.value → Marked s (minus_form (first (stack_at s p))) q (hop.Label (mark.Number (wire v.value)) q)
  unfolding staged
  minus-label h i = rw (to_z-of_z i) (go (minus_form (first (stack_at s p))) refl)
    where
      go : (o : Option Constant) → minus_form (first (stack_at s p)) ≡ o → Marked s o q (hop.Label (mark.Number v.value) q)
      go none k = absurd (true≢false (sym (ap is_form ((G.says nobody).fault-is ∙ ap (λ (o : Option Constant). fault_of (staged o (constant_of nobody) plain some)) k)) ∙ sym e ∙ h))
      go (some c) k = record { says = (refl, (c, (refl, minus-tells c k))) }

pub ruleset minus_laws = (minus-over, minus-label, sfits_of)
