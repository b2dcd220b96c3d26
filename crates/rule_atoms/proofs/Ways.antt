-- The ways through the functions of the crate.
use mathlib.Core.Path.{◌≡◌, refl, sym, ap, ◌∙◌}
use mathlib.Core.Bool.{Bool, true, false, cond, false≢true}
use mathlib.Core.List.{List, map}
use mathlib.Core.Option.{Option, none, some}
use Prim.Native.Nat.{ℕ, ◌<◌}
use native.Mathlib.Omega.{arith}
use lib.IntN.{ℤ, pos, neg_ℤ}
use mir.Val.{SFits, to_z, bool_byte as from_bool}
use mir.Facts.{to_z-of_z}
use mir.Syntax.{w64}
use Rattle.leaf_integers.specs.Integers.{exact}
use Rattle.leaf_integers.specs.declared.Fault as ArithFault
use Rattle.leaf_integers.specs.Integers.{Num}
use Rattle.std.specs.Prelude.{Ok, Err}
use Rattle.leaf_integers.proofs.Machine.{wire}
use Rattle.leaf_bytes.specs.Bytes.{small}
use Rattle.leaf_words.specs.Words.{word_of}
use Rattle.leaf_words.specs.declared.words.Word.{Word}
use Rattle.law.specs.Base.{◌>>=◌, either}
use Rattle.law.specs.Calculate.{truth}
use Rattle.law.specs.Environment.{Environment}
use Rattle.law.specs.Forms.{type_name, free, key_of, is_number}
use Rattle.law.specs.Words as Words
use Rattle.law.specs.Words.{worded, worded_all}
use Rattle.law.specs.Names.{type_of, constant_of}
use Rattle.rule_stages.specs.Stages.{staged}
use Rattle.law.specs.Syntax.{Constant, minus}
use Rattle.law.specs.Trees.{word, form, Trees, end, ◌then◌, Run, first, later, word_at}
use Rattle.law_theorems.specs.Readings.{stack_at}
use Rattle.table_scope.specs.declared.Scope.{Scope}
use Rattle.rule_faults.specs.declared.Fault.TheVariants.{Clear, Kind, Name, Form}
use Rattle.table_scope.specs.declared.Meaning.{Meaning}
use Rattle.table_scope.specs.declared.Meaning.TheVariants as meaning
use Rattle.table_scope.specs.Scene.{meaning_here}
use Rattle.table_scope.proofs.Telling.{meant}
use Rattle.text_parts.specs.Parts.{Before, LeafAt, FormAt, ShutAt, Stands, Shuts}
use Rattle.text_parts.specs.declared.Part.{Part}
use Rattle.text_parts.specs.declared.Part.TheVariants as part
use Rattle.std.specs.Prelude.{Option as Maybe, Some, None}
use Rattle.text_heads.specs.Heads.{atom_of, expr_head_of, atom_number, minus_pick}
use Rattle.text_heads.specs.Parts.{part_of, closed, number_in, type_name_in, constant_in, constant_by}
use Rattle.text_heads.specs.declared.Atom.{Atom}
use Rattle.text_heads.specs.declared.Atom.TheVariants as AT
use Rattle.text_heads.specs.declared.ExprHead.{ExprHead}
use Rattle.text_heads.specs.declared.ExprHead.TheVariants as EH
use Rattle.text_heads.proofs.Heads.{type-word, constant-word, number_word}
use Rattle.text_heads.proofs.Expressions.{constant-form, constant-empty, constant-headless}
use Rattle.rule_atoms.specs.declared.Typed.{Typed}
use Rattle.rule_atoms.specs.declared.Valued.{Valued}
use Rattle.rule_atoms.specs.Answers.{typed, type_meant, type_by, valued, num_valued, value_meant, value_by, is_minus}
use Rattle.rule_atoms.specs.Answering.{TypeTold, GivesType, GivesConstant, GivesMinus, minus_form, minus_number, minus_end, minus_by}
use Rattle.rule_atoms.proofs.Telling.{base-two, type-told, value-told, num-told, wrong-told, wrong-fits}

-- ---- by a number

module _ (k q : ℕ) (x : Num) (r : Valued) where
  pub num-value : (z : ℤ) → x ≡ Ok z → SFits w64 z → r ≡ valued Clear k (wire z) q → r ≡ num_valued k x q
  num-value z e p f = f ∙ rw (e, to_z-of_z p) refl

  pub num-failed : (f : ArithFault.Fault) → x ≡ Err f → r ≡ valued Kind 0 (pos 0) q → r ≡ num_valued k x q
  num-failed f e g = rw e g

pub ruleset num_laws = (num-value, num-failed)

pub wide_is : (n : ℕ) → n < 4294967296 → to_z w64 n ≡ pos n
wide_is n h = to_z-of_z {w = w64} {z = pos n} (record { sfits = omega arith })

-- ---- a word alone

-- `true` and `false` as integers
pub truth_from : (w : Word) (M : Meaning) (q : ℕ) (a : Atom) (b : Bool) (z : ℤ) (r : Valued) → a ≡ atom_of w → a ≡ AT.Truth b → SFits w64 z → z ≡ pos (from_bool b)
    → r ≡ valued Clear 1 (wire z) q → r ≡ value_by (atom_of w) M q
unfolding truth
truth_from w M q a true z r e f p g h = rw (← e, f) (h ∙ rw (to_z-of_z p, g) refl)
truth_from w M q a false z r e f p g h = rw (← e, f) (h ∙ rw (to_z-of_z p, g) refl)

-- ---- a type's name

type-next : (a : Atom) (m : Meaning) (q : ℕ) → (type_by a m q).next ≡ q
type-next (AT.Number z) m q = refl
type-next AT.Named meaning.Unknown q = refl
type-next AT.Named (meaning.Type t) q = refl
type-next AT.Named (meaning.Var i t b) q = refl
type-next AT.Named (meaning.Proc p) q = refl
type-next AT.Named (meaning.Value k n) q = refl
type-next (AT.Truth b) m q = refl
type-next AT.ErrorNumber m q = refl
type-next (AT.Base k) m q = refl
type-next AT.Nothing m q = refl

-- a part that is no word is wrong
no-type : (t : Trees Run) (σ : Environment) (q : ℕ) → type_name_in t ≡ none → TypeTold (staged (type_name_in t) (type_of σ) (λ _. true) some) (typed Form 0 q)
unfolding staged
no-type t σ q e = rw e (record { fault-is = refl; kind-is = λ k h. wrong-fits h })

form_type : (us ts : Trees Run) → type_name_in (form us then ts) ≡ none
unfolding type_name_in part_of type_name free key_of either worded ◌>>=◌
form_type us ts = go (worded_all us)
  where
    go : (o : Option (Trees Words.Word)) → ((o >>= λ vs. some (form vs)) >>= type_name) ≡ none
    go none = refl
    go (some vs) = refl

module _ (s l : List ℕ) (scope : Scope) (at : ℕ) (x : Part) (h : Stands s at x) (r : Typed) where
  pub type-leaf : (w : Word) (p q : ℕ) → x ≡ part.Leaf w p q → r ≡ type_by (atom_of w) (meaning_here s l scope p) q → GivesType s l scope at r
  type-leaf w p q e f =
      let g : LeafAt s at p q × (w ≡ word_of (word_at s p)) = rw e at h.says in
      let b : Before s at (word (word_at s p)) q = g.0.leaf in
      record {
        goes = λ _. (word (word_at s p), rw (f, type-next (atom_of w) (meaning_here s l scope p) q) b);
        says = λ ts top σ bs S. rw (f, b.here, type-word (word_at s p) (first (stack_at s q)), g.1)
            (type-told σ bs (map small (word_at s p)) q (atom_of (word_of (word_at s p))) (base-two (word_of (word_at s p))) _ (meant S (map small (word_at s p))));
      }

  pub type-form : (p : ℕ) → x ≡ part.Form p → r ≡ typed Form 0 at → GivesType s l scope at r
  type-form p e f =
      let g : FormAt s at p = rw e at h.says in
      rw f (record { goes = λ k. absurd (false≢true (sym k)); says = λ ts top σ bs S. no-type (first (stack_at s at)) σ at (ap type_name_in g.here ∙ form_type (first (stack_at s p)) (first (later (stack_at s p)))) })

  pub type-shut : (q : ℕ) → x ≡ part.Shut q → r ≡ typed Form 0 at → GivesType s l scope at r
  unfolding type_name_in part_of ◌>>=◌
  type-shut q e f =
      let g : ShutAt s at q = rw e at h.says in
      rw f (record { goes = λ k. absurd (false≢true (sym k)); says = λ ts top σ bs S. no-type (first (stack_at s at)) σ at (ap type_name_in g.here ∙ refl) })

-- another part than a word
pub type-other : (s l : List ℕ) (scope : Scope) (at : ℕ) (x : Part) → Stands s at x → (r : Typed) → ((w : Word) (p q : ℕ) → x ≡ part.Leaf w p q → ⊥) → r ≡ typed Form 0 at → GivesType s l scope at r
type-other s l scope at (part.Leaf w p q) h r k f = absurd (k w p q refl)
type-other s l scope at (part.Form p) h r k f = type-form s l scope at (part.Form p) h r p refl f
type-other s l scope at (part.Shut q) h r k f = type-shut s l scope at (part.Shut q) h r q refl f

pub ruleset type_name_laws = (type-leaf, type-other)

-- ---- `(- number)`

-- no constant
pub no_minus : (s : List ℕ) (at q : ℕ) (o : Option Constant) (r : Valued) → o ≡ none → r ≡ valued Form 0 (pos 0) q → GivesMinus s at o r
unfolding staged
no_minus s at q o r e f = rw (e, f) (record { goes = λ k. absurd (false≢true (sym k)); says = λ σ. wrong-told })

number-next : (k : ℕ) (x : Num) (q : ℕ) → (num_valued k x q).next ≡ q
number-next k (Ok y) q = refl
number-next k (Err f) q = refl

more-closed : {A : Type 0} (us : Trees Run) (a : A) → (us ≡ end → ⊥) → closed us a ≡ none
unfolding closed
more-closed end a k = absurd (k refl)
more-closed (t then us) a k = refl

module _ (s : List ℕ) (at : ℕ) (z : ℤ) (e : Maybe ℕ) (h : Shuts s at e) (r : Valued) where
  pub minus-past : (q : ℕ) (x : Num) → e ≡ Some q → SFits w64 z → x ≡ exact (neg_ℤ (wire z)) → r ≡ num_valued 0 x q
      → GivesMinus s at (minus_end z (first (stack_at s at))) r
  unfolding minus_end closed staged constant_of
  minus-past q x f p g k =
      let d : ShutAt s at q = rw f at h.says in
      let y : x ≡ exact (neg_ℤ z) = g ∙ ap (λ v. exact (neg_ℤ v)) (to_z-of_z p) in
      rw k (record {
        goes = λ _. d.around ∙ ap (stack_at s) (sym (number-next 0 x q));
        says = λ σ. rw (d.here, y) (num-told 0 (neg_ℤ z) q);
      })

  pub minus-more : e ≡ None → r ≡ valued Form 0 (pos 0) at → GivesMinus s at (minus_end z (first (stack_at s at))) r
  unfolding minus_end
  minus-more f k =
      let d : first (stack_at s at) ≡ end → ⊥ = rw f at h.says in
      no_minus s at at (closed (first (stack_at s at)) (minus z)) r (more-closed (first (stack_at s at)) (minus z) d) k

pub ruleset minus_end_laws = (minus-past, minus-more)

module _ (s : List ℕ) (next at : ℕ) (w : Word) (a : Atom) (e : a ≡ atom_of w) (r : Valued) where
  pub minus-number : (z : ℤ) → a ≡ AT.Number z → SFits w64 z → GivesMinus s next (minus_end (wire z) (first (stack_at s next))) r
      → GivesMinus s next (minus_by (atom_of w) (first (stack_at s next))) r
  minus-number z f p g = rw (← e, f) (rw (to_z-of_z p) at g)

-- another word than a number
pub minus-other : (s : List ℕ) (next at : ℕ) (w : Word) (a : Atom) → a ≡ atom_of w → (r : Valued) → ((z : ℤ) → a ≡ AT.Number z → ⊥) → r ≡ valued Form 0 (pos 0) at
    → GivesMinus s next (minus_by (atom_of w) (first (stack_at s next))) r
minus-other s next at w (AT.Number z) e r k f = absurd (k z refl)
minus-other s next at w AT.Named e r k f = rw (← e) (no_minus s next at none r refl f)
minus-other s next at w (AT.Truth b) e r k f = rw (← e) (no_minus s next at none r refl f)
minus-other s next at w AT.ErrorNumber e r k f = rw (← e) (no_minus s next at none r refl f)
minus-other s next at w (AT.Base b) e r k f = rw (← e) (no_minus s next at none r refl f)
minus-other s next at w AT.Nothing e r k f = rw (← e) (no_minus s next at none r refl f)

pub ruleset minus_word_laws = (minus-number, minus-other)

form-number : (us ts : Trees Run) → minus_number (form us then ts) ≡ none
unfolding minus_number number_in part_of is_number worded ◌>>=◌
form-number us ts = go (worded_all us)
  where
    go : (o : Option (Trees Words.Word)) → (((o >>= λ vs. some (form vs)) >>= is_number) >>= λ z. closed ts (minus z)) ≡ none
    go none = refl
    go (some vs) = refl

end-number : minus_number end ≡ none
unfolding minus_number number_in part_of ◌>>=◌
end-number = refl

-- what stands after a part that is passed is judged there
passed : (s : List ℕ) (at q : ℕ) (o : Option Constant) (r : Valued) → later (stack_at s at) ≡ later (stack_at s q) → GivesMinus s q o r → GivesMinus s at o r
passed s at q o r e G = record { goes = λ k. e ∙ G.goes k; says = G.says }

-- a number and what follows it
minus-then : (w : Run) (us : Trees Run) → minus_number (word w then us) ≡ minus_by (atom_of (word_of w)) us
unfolding minus_number minus_end ◌>>=◌
minus-then w us = ap (λ o. o >>= λ z. closed us (minus z)) (number_word w us) ∙ go (atom_of (word_of w))
  where
    go : (a : Atom) → (atom_number a >>= λ z. closed us (minus z)) ≡ minus_by a us
    go (AT.Number z) = refl
    go AT.Named = refl
    go (AT.Truth b) = refl
    go AT.ErrorNumber = refl
    go (AT.Base k) = refl
    go AT.Nothing = refl

module _ (s : List ℕ) (at : ℕ) (x : Part) (h : Stands s at x) (r : Valued) where
  pub number-leaf : (w : Word) (p q : ℕ) → x ≡ part.Leaf w p q → GivesMinus s q (minus_by (atom_of w) (first (stack_at s q))) r
      → GivesMinus s at (minus_number (first (stack_at s at))) r
  number-leaf w p q e G =
      let g : LeafAt s at p q × (w ≡ word_of (word_at s p)) = rw e at h.says in
      let b : Before s at (word (word_at s p)) q = g.0.leaf in
      let i : minus_number (first (stack_at s at)) ≡ minus_by (atom_of w) (first (stack_at s q)) =
      ap minus_number b.here ∙ minus-then (word_at s p) (first (stack_at s q)) ∙ ap (λ v. minus_by (atom_of v) (first (stack_at s q))) (sym g.1) in
      rw i (passed s at q (minus_by (atom_of w) (first (stack_at s q))) r b.around G)

  pub number-form : (p : ℕ) → x ≡ part.Form p → r ≡ valued Form 0 (pos 0) at → GivesMinus s at (minus_number (first (stack_at s at))) r
  number-form p e f =
      let g : FormAt s at p = rw e at h.says in
      no_minus s at at (minus_number (first (stack_at s at))) r (ap minus_number g.here ∙ form-number (first (stack_at s p)) (first (later (stack_at s p)))) f

  pub number-shut : (q : ℕ) → x ≡ part.Shut q → r ≡ valued Form 0 (pos 0) at → GivesMinus s at (minus_number (first (stack_at s at))) r
  number-shut q e f =
      let g : ShutAt s at q = rw e at h.says in
      no_minus s at at (minus_number (first (stack_at s at))) r (ap minus_number g.here ∙ end-number) f

pub number-other : (s : List ℕ) (at : ℕ) (x : Part) → Stands s at x → (r : Valued) → ((w : Word) (p q : ℕ) → x ≡ part.Leaf w p q → ⊥) → r ≡ valued Form 0 (pos 0) at
    → GivesMinus s at (minus_number (first (stack_at s at))) r
number-other s at (part.Leaf w p q) h r k f = absurd (k w p q refl)
number-other s at (part.Form p) h r k f = number-form s at (part.Form p) h r p refl f
number-other s at (part.Shut q) h r k f = number-shut s at (part.Shut q) h r q refl f

pub ruleset minus_number_laws = (number-leaf, number-other)

-- ---- the head

picked : {A : Type 0} (x : Option A) (h : ExprHead) (b : Bool) → b ≡ is_minus h → minus_pick x h ≡ cond b x none
picked x EH.At b e = rw e refl
picked x EH.Dot b e = rw e refl
picked x EH.Members b e = rw e refl
picked x EH.Minus b e = rw e refl
picked x (EH.Bound q) b e = rw e refl
picked x (EH.Short q) b e = rw e refl
picked x (EH.Two k) b e = rw e refl
picked x (EH.One k) b e = rw e refl
picked x EH.Nothing b e = rw e refl

minus-headed : (w : Run) (us : Trees Run) (b : Bool) → b ≡ is_minus (expr_head_of (word_of w)) → minus_form (word w then us) ≡ cond b (minus_number us) none
unfolding minus_form minus_number constant_by
minus-headed w us b e = constant-form w us end ∙ picked (minus_number us) (expr_head_of (word_of w)) b e

module _ (s : List ℕ) (at : ℕ) (x : Part) (h : Stands s at x) (r : Valued) where
  module _ (w : Word) (p q : ℕ) (e : x ≡ part.Leaf w p q) (b : Bool) (t : b ≡ is_minus (expr_head_of w)) where
    headed-is : minus_form (first (stack_at s at)) ≡ cond b (minus_number (first (stack_at s q))) none
    headed-is =
        let g : LeafAt s at p q × (w ≡ word_of (word_at s p)) = rw e at h.says in
        ap minus_form g.0.leaf.here ∙ minus-headed (word_at s p) (first (stack_at s q)) b (t ∙ ap (λ v. is_minus (expr_head_of v)) g.1)

    pub form-minus : b ≡ true → GivesMinus s q (minus_number (first (stack_at s q))) r → GivesMinus s at (minus_form (first (stack_at s at))) r
    form-minus i G =
        let g : LeafAt s at p q × (w ≡ word_of (word_at s p)) = rw e at h.says in
        let j : minus_form (first (stack_at s at)) ≡ minus_number (first (stack_at s q)) = headed-is ∙ rw i refl in
        rw j (passed s at q (minus_number (first (stack_at s q))) r g.0.leaf.around G)

    pub form-other : b ≡ false → r ≡ valued Form 0 (pos 0) at → GivesMinus s at (minus_form (first (stack_at s at))) r
    form-other i f = no_minus s at at (minus_form (first (stack_at s at))) r (headed-is ∙ rw i refl) f

  pub form-form : (p : ℕ) → x ≡ part.Form p → r ≡ valued Form 0 (pos 0) at → GivesMinus s at (minus_form (first (stack_at s at))) r
  unfolding minus_form
  form-form p e f =
      let g : FormAt s at p = rw e at h.says in
      no_minus s at at (minus_form (first (stack_at s at))) r (ap minus_form g.here ∙ constant-headless (first (stack_at s p)) (first (later (stack_at s p))) end) f

  pub form-shut : (q : ℕ) → x ≡ part.Shut q → r ≡ valued Form 0 (pos 0) at → GivesMinus s at (minus_form (first (stack_at s at))) r
  unfolding minus_form
  form-shut q e f =
      let g : ShutAt s at q = rw e at h.says in
      no_minus s at at (minus_form (first (stack_at s at))) r (ap minus_form g.here ∙ constant-empty end) f

pub form-none : (s : List ℕ) (at : ℕ) (x : Part) → Stands s at x → (r : Valued) → ((w : Word) (p q : ℕ) → x ≡ part.Leaf w p q → ⊥) → r ≡ valued Form 0 (pos 0) at
    → GivesMinus s at (minus_form (first (stack_at s at))) r
form-none s at (part.Leaf w p q) h r k f = absurd (k w p q refl)
form-none s at (part.Form p) h r k f = form-form s at (part.Form p) h r p refl f
form-none s at (part.Shut q) h r k f = form-shut s at (part.Shut q) h r q refl f

pub ruleset minus_form_laws = (form-minus, form-other, form-none)

-- ---- a constant

value-next : (a : Atom) (m : Meaning) (q : ℕ) → (value_by a m q).next ≡ q
value-next (AT.Number z) m q = number-next 0 (exact z) q
value-next AT.Named meaning.Unknown q = refl
value-next AT.Named (meaning.Type t) q = refl
value-next AT.Named (meaning.Var i t b) q = refl
value-next AT.Named (meaning.Proc p) q = refl
value-next AT.Named (meaning.Value k n) q = number-next k (exact (pos n)) q
value-next (AT.Truth b) m q = refl
value-next AT.ErrorNumber m q = refl
value-next (AT.Base k) m q = refl
value-next AT.Nothing m q = refl

-- the parts after a form do not matter
form-alone : (us ts : Trees Run) → constant_in (form us then ts) ≡ minus_form us
unfolding minus_form constant_in part_of
form-alone us ts = refl

module _ (s l : List ℕ) (scope : Scope) (at : ℕ) (x : Part) (h : Stands s at x) (r : Valued) where
  pub constant-leaf : (w : Word) (p q : ℕ) → x ≡ part.Leaf w p q → r ≡ value_by (atom_of w) (meaning_here s l scope p) q → GivesConstant s l scope at r
  constant-leaf w p q e f =
      let g : LeafAt s at p q × (w ≡ word_of (word_at s p)) = rw e at h.says in
      let b : Before s at (word (word_at s p)) q = g.0.leaf in
      record {
        goes = λ _. (word (word_at s p), rw (f, value-next (atom_of w) (meaning_here s l scope p) q) b);
        says = λ ts top σ bs S. rw (f, b.here, constant-word (word_at s p) (first (stack_at s q)), g.1)
            (value-told σ bs (map small (word_at s p)) q (atom_of (word_of (word_at s p))) _ (meant S (map small (word_at s p))));
      }

  pub constant-minus : (p : ℕ) → x ≡ part.Form p → GivesMinus s p (minus_form (first (stack_at s p))) r → GivesConstant s l scope at r
  constant-minus p e G =
      let g : FormAt s at p = rw e at h.says in
      record {
        goes = λ k. (form (first (stack_at s p)), record { here = g.here ∙ ap (λ z. form (first (stack_at s p)) then first z) (G.goes k); around = g.around ∙ ap later (G.goes k) });
        says = λ ts top σ bs S. rw (g.here, form-alone (first (stack_at s p)) (first (later (stack_at s p)))) (G.says σ);
      }

  pub constant-shut : (q : ℕ) → x ≡ part.Shut q → r ≡ valued Form 0 (pos 0) at → GivesConstant s l scope at r
  unfolding staged constant_in part_of ◌>>=◌
  constant-shut q e f =
      let g : ShutAt s at q = rw e at h.says in
      rw f (record { goes = λ k. absurd (false≢true (sym k)); says = λ ts top σ bs S. rw g.here wrong-told })

pub ruleset constant_laws = (constant-leaf, constant-minus, constant-shut)
