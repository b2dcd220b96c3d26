-- The ways through the functions on free names and last parts.
use mathlib.Core.Path.{◌≡◌, refl, sym, ap, ◌∙◌}
use mathlib.Core.Bool.{Bool, true, false, false≢true}
use mathlib.Core.List.{List, [], map}
use mathlib.Core.Option.{Option, none, some}
use Prim.Native.Nat.{ℕ, ◌<◌}
use native.Mathlib.Decide.{dec_lt}
use native.Mathlib.Omega.{arith}
use lib.ListN.{length}
use Rattle.leaf_bytes.specs.Bytes.{bytes, small, same}
use Rattle.leaf_reserved.specs.Table.{place_of, position, fixed, reserved, operators}
use Rattle.leaf_bytes.specs.Names.{is_name}
use Rattle.leaf_words.specs.Numbers.{number_of}
use Rattle.leaf_words.specs.Words.{word_of, placed, named}
use Rattle.leaf_words.specs.declared.words.Word.{Word}
use Rattle.law.specs.Base.{◌>>=◌}
use Rattle.law.specs.Environment.{Environment}
use Rattle.law.specs.Forms.{free}
use Rattle.law.specs.Names.{type_of}
use Rattle.rule_stages.specs.Stages as Stages
use Rattle.rule_stages.specs.Stages.{ruled, staged}
use Rattle.law.specs.Trees.{Tree, form, Trees, end, ◌then◌, Run, first, later, word_at}
use Rattle.law_theorems.specs.Readings.{stack_at}
use Rattle.law.specs.Words as Words
use Rattle.law.specs.Words.{worded, worded_all}
use Rattle.law_theorems.proofs.Reading.{none-word}
use Rattle.table_scope.specs.declared.Scope.{Scope}
use Rattle.rule_faults.specs.declared.Fault.{Fault}
use Rattle.rule_faults.specs.declared.Fault.TheVariants.{Clear, Kind, Name, Form}
use Rattle.table_scope.specs.declared.Meaning.{Meaning}
use Rattle.table_scope.specs.declared.Meaning.TheVariants as meaning
use Rattle.table_scope.specs.Scene.{Scene, meaning_here}
use Rattle.rule_faults.specs.Got.{is_form, lowest, fault_of}
use Rattle.text_parts.specs.Parts.{Before, LeafAt, FormAt, ShutAt, Stands, Shuts}
use Rattle.text_parts.specs.declared.Part.{Part}
use Rattle.text_parts.specs.declared.Part.TheVariants as part
use Rattle.std.specs.Prelude.{Option as Maybe, Some, None}
use Rattle.text_heads.specs.Heads.{atom_of, atom_name}
use Rattle.text_heads.specs.Parts.{part_of, rest, closed, name_in, type_name_in}
use Rattle.text_heads.specs.declared.Atom.{Atom}
use Rattle.text_heads.specs.declared.Atom.TheVariants as AT
use Rattle.text_heads.proofs.Heads.{name-word}
use Rattle.rule_atoms.specs.declared.Typed.{Typed}
use Rattle.rule_atoms.specs.Answers.{typed}
use Rattle.rule_atoms.specs.Answering.{GivesType}
use Rattle.rule_atoms.proofs.Telling.{wrong-fits}
use Rattle.rule_declarations.specs.Names.{named_by, GivesName, new_fault, last_type, GivesLastType}
use Rattle.std.specs.Prelude.{Option as Maybe, Some, None}
use Rattle.rule_declarations.specs.declared.FreeName.{FreeName}

-- ---- a free name

-- no name stands past the text's end
no-atom : atom_of (word_of []) ≡ AT.Nothing
unfolding word_of placed place_of position fixed reserved operators named is_name number_of same bytes small
no-atom = refl

inside : (s : List ℕ) (p : ℕ) → atom_of (word_of (word_at s p)) ≡ AT.Named → p < length s
inside s p h = go (dec_lt p (length s))
  where
    go : Dec (p < length s) → p < length s
    go (yes l) = l
    go (no n) =
        let e : word_at s p ≡ [] = none-word s p (omega arith) in
        let g : AT.Nothing ≡ AT.Named = sym no-atom ∙ rw e at h in
        absurd (let z : ◌≡◌ {A = ℕ} 0 1 = cc in omega arith)

form-name : (us ts : Trees Run) → name_in (form us then ts) ≡ none
unfolding name_in part_of free worded ◌>>=◌
form-name us ts = go (worded_all us)
  where
    go : (o : Option (Trees Words.Word)) → ((o >>= λ vs. some (form vs)) >>= free) ≡ none
    go none = refl
    go (some vs) = refl

module _ (s : List ℕ) (at : ℕ) (x : Part) (h : Stands s at x) where
  pub name-leaf : (r : Maybe FreeName) (w : Word) (p q : ℕ) → x ≡ part.Leaf w p q → r ≡ named_by (atom_of w) p q → GivesName s at r
  name-leaf r w p q e f =
      let g : LeafAt s at p q × (w ≡ word_of (word_at s p)) = rw e at h.says in
      let n : name_in (first (stack_at s at)) ≡ atom_name (atom_of w) (map small (word_at s p)) =
      ap name_in g.0.leaf.here ∙ name-word (word_at s p) (first (stack_at s q)) ∙ ap (λ v. atom_name (atom_of v) (map small (word_at s p))) (sym g.1) in
      rw f (go (atom_of w) (ap atom_of (sym g.1)) g.0 n)
    where
      go : (a : Atom) → atom_of (word_of (word_at s p)) ≡ a → LeafAt s at p q → name_in (first (stack_at s at)) ≡ atom_name a (map small (word_at s p)) → GivesName s at (named_by a p q)
      go (AT.Number z) i l n = record { says = n }
      go AT.Named i l n = record { says = (l, inside s p i, n) }
      go (AT.Truth b) i l n = record { says = n }
      go AT.ErrorNumber i l n = record { says = n }
      go (AT.Base k) i l n = record { says = n }
      go AT.Nothing i l n = record { says = n }

  pub name-form : (p : ℕ) → x ≡ part.Form p → GivesName s at None
  name-form p e = let g : FormAt s at p = rw e at h.says in record { says = ap name_in g.here ∙ form-name (first (stack_at s p)) (first (later (stack_at s p))) }

  pub name-shut : (q : ℕ) → x ≡ part.Shut q → GivesName s at None
  unfolding name_in part_of ◌>>=◌
  name-shut q e = let g : ShutAt s at q = rw e at h.says in record { says = ap name_in g.here }

-- another part than a word
pub name-other : (s : List ℕ) (at : ℕ) (x : Part) → Stands s at x → ((w : Word) (p q : ℕ) → x ≡ part.Leaf w p q → ⊥) → GivesName s at None
name-other s at (part.Leaf w p q) h k = absurd (k w p q refl)
name-other s at (part.Form p) h k = name-form s at (part.Form p) h p refl
name-other s at (part.Shut q) h k = name-shut s at (part.Shut q) h q refl

pub ruleset name_laws = (name-leaf, name-other)

pub named_is : (s l : List ℕ) (scope : Scope) (p : ℕ) (f r : Fault) (m : Meaning) → m ≡ meaning_here s l scope p
    → r ≡ new_fault f m → r ≡ new_fault f (meaning_here s l scope p)
named_is s l scope p f r m e g = g ∙ rw e refl

-- ---- a type's name that is the last part

-- a fault of row 6 is a missing form
pub none-wrong : {A B C : Type 0} (o : Option A) (n : A → Option B) (r : B → Bool) (k : B → Option C) → Form ≡ fault_of (staged o n r k) → o ≡ none
unfolding staged Stages.named ruled
none-wrong none n r k h = refl
none-wrong {B = B} {C = C} (some a) n r k h = absurd (go (n a) h)
  where
    two : Form ≡ Name → ⊥
    two e = let z : ◌≡◌ {A = ℕ} 0 1 = cc in omega arith

    three : Form ≡ Kind → ⊥
    three e = let z : ◌≡◌ {A = ℕ} 0 1 = cc in omega arith

    four : Form ≡ Clear → ⊥
    four e = let z : ◌≡◌ {A = ℕ} 0 1 = cc in omega arith

    last : (t : Bool) (o : Option C) → Form ≡ fault_of (ruled t o) → ⊥
    last false o e = three e
    last true none e = three e
    last true (some c) e = four e

    go : (o : Option B) → Form ≡ fault_of (Stages.named o r k) → ⊥
    go none e = two e
    go (some b) e = last (r b) (k b) e

pub form-is : (f : Fault) → is_form f ≡ true → f ≡ Form
form-is Clear e = absurd (false≢true e)
form-is Kind e = absurd (false≢true e)
form-is Name e = absurd (false≢true e)
form-is Form e = refl

pub bound-none : {A B : Type 0} (o : Option A) (f : A → Option B) → o ≡ none → (o >>= f) ≡ none
unfolding ◌>>=◌
bound-none o f e = rw e refl

pub bound_some : {A : Type 0} (o : Option A) → (o >>= λ a. some a) ≡ o
unfolding ◌>>=◌
bound_some none = refl
bound_some (some a) = refl

pub bound-nones : {A B : Type 0} (o : Option A) (f : A → Option B) → ((a : A) → f a ≡ none) → (o >>= f) ≡ none
unfolding ◌>>=◌
bound-nones none f h = refl
bound-nones (some a) f h = h a

pub more-closed : {A : Type 0} (us : Trees Run) (a : A) → (us ≡ end → ⊥) → closed us a ≡ none
unfolding closed
more-closed end a k = absurd (k refl)
more-closed (t then us) a k = refl

no_last : (s l : List ℕ) (scope : Scope) (at q : ℕ) → ((ts : List ℕ) (top : ℕ) (σ : Environment) (bs : List ℕ) → Scene s l ts scope top σ bs → last_type (first (stack_at s at)) ≡ none)
    → GivesLastType s l scope at (typed Form 0 q)
unfolding staged
no_last s l scope at q h = record {
  goes = λ k. absurd (false≢true (sym k));
  says = λ ts top σ bs S. rw (h ts top σ bs S) (record { fault-is = refl; kind-is = λ k e. wrong-fits e });
}

module _ (s l : List ℕ) (scope : Scope) (at : ℕ) (t : Typed) (G : GivesType s l scope at t) (f : Fault) (d : f ≡ t.fault) (r : Typed) where
  pub last-form : (b : Bool) → b ≡ is_form f → b ≡ true → r ≡ typed Form 0 at → GivesLastType s l scope at r
  unfolding last_type
  last-form b e i g = rw g (no_last s l scope at at (λ ts top σ bs S.
      bound-none (type_name_in (first (stack_at s at))) _
      (none-wrong (type_name_in (first (stack_at s at))) (type_of σ) (λ _. true) some (sym (sym d ∙ form-is f (sym e ∙ i)) ∙ (G.says ts top σ bs S).fault-is))))

  module _ (b : Bool) (e : b ≡ is_form f) (i : b ≡ false) (x : Maybe ℕ) (E : Shuts s t.next x) where
    passed : (u : Tree Run) × Before s at u t.next
    passed = G.goes (ap is_form (sym d) ∙ sym e ∙ i)

    rest-is : rest (first (stack_at s at)) ≡ first (stack_at s t.next)
    rest-is = ap rest passed.1.here

    pub last_more : x ≡ None → r ≡ typed Form 0 at → GivesLastType s l scope at r
    unfolding last_type
    last_more j g =
        let m : first (stack_at s t.next) ≡ end → ⊥ = rw j at E.says in
        rw g (no_last s l scope at at (λ ts top σ bs S.
        bound-nones (type_name_in (first (stack_at s at))) _ (λ a. more-closed (rest (first (stack_at s at))) a (λ z. m (sym rest-is ∙ z)))))

    pub last-past : (q : ℕ) → x ≡ Some q → r ≡ typed f t.kind q → GivesLastType s l scope at r
    unfolding last_type closed
    last-past q j g =
        let m : ShutAt s t.next q = rw j at E.says in
        let z : rest (first (stack_at s at)) ≡ end = rest-is ∙ m.here in
        rw g (record {
          goes = λ _. passed.1.around ∙ m.around;
          says = λ ts top σ bs S. rw (z, bound_some (type_name_in (first (stack_at s at)))) (record {
            fault-is = d ∙ (G.says ts top σ bs S).fault-is;
            kind-is = (G.says ts top σ bs S).kind-is;
          });
        })

pub ruleset last_laws = (last-form, last_more, last-past)
