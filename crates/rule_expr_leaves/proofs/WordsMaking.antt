-- The laws of the words' code: each way through a function gives the answer that `Words` defines.
use mathlib.Core.Path.{◌≡◌, refl, sym, ap, ◌∙◌}
use mathlib.Core.Bool.{Bool, true, false}
use mathlib.Core.List.{List, [], ◌∷◌}
use mathlib.Core.Option.{none, some}
use Prim.Native.Nat.{ℕ}
use native.Mathlib.Omega.{arith}
use borrow.Author.Tests.{eq-eqb, ne_eqb}
use lib.IntN.{ℤ, neg_ℤ}
use mir.Syntax.{w64}
use mir.Val.{SFits}
use mir.Facts.{to_z-of_z}
use Rattle.leaf_integers.specs.Integers.{inside, least, most, pick, ranged, exact}
use Rattle.leaf_integers.specs.declared.Fault as ArithFault
use Rattle.leaf_integers.specs.declared.Fault.TheVariants.{Overflow}
use Rattle.leaf_integers.specs.Integers.{Num}
use Rattle.std.specs.Prelude.{Ok, Err, Option, Some, None, Option as Maybe}
use Rattle.leaf_integers.proofs.Machine.{wire}
use Rattle.leaf_words.specs.declared.words.Word.{Word}
use Rattle.leaf_words.specs.Words.{word_of}
use Rattle.code.specs.Layout.{lay}
use Rattle.law.specs.Trees.{end, word, first, later, word_at}
use Rattle.law_theorems.specs.Readings.{stack_at}
use Rattle.text_heads.specs.Heads.{atom_of, atom_number}
use Rattle.text_heads.specs.Parts.{rest, number_in, part_of}
use Rattle.text_heads.specs.declared.Atom.{Atom}
use Rattle.text_heads.specs.declared.Atom.TheVariants as AT
use Rattle.text_heads.proofs.Heads.{number_word}
use Rattle.text_heads.proofs.Expressions.{number-form}
use Rattle.law.specs.Base.{◌>>=◌}
use Rattle.rule_faults.specs.declared.Fault.{Fault}
use Rattle.rule_faults.specs.declared.Fault.TheVariants.{Clear, Kind, Name, Form}
use Rattle.table_scope.specs.declared.Info.{Info}
use Rattle.table_scope.specs.declared.Meaning.{Meaning}
use Rattle.table_scope.specs.declared.Meaning.TheVariants as meaning
use Rattle.table_scope.specs.Descriptions.{info_of}
use Rattle.table_scope.specs.Sides.{host_in}
use Rattle.rule_faults.specs.declared.Got.{Got}
use Rattle.text_parts.specs.declared.Part.{Part}
use Rattle.text_parts.specs.declared.Part.TheVariants as part
use Rattle.rule_faults.specs.Got.{failed_got, is_clear}
use Rattle.text_parts.specs.Parts.{Before, LeafAt, FormAt, ShutAt, Stands, Shuts}
use Rattle.rule_expr_nodes.specs.Nodes.{node_made, Makes, if_clear, literal_made}
use Rattle.rule_expr_nodes.proofs.Making.{if-clear, if-fault}
use Rattle.rule_expr_nodes.specs.Cells.{cells_made, end_bits}
use Rattle.rule_expr_leaves.specs.Words.{AfterBy, StandsAloneBy, whole_made, named_made, place_made, end_made, bound_made, Ends, After, StandsAlone}

-- ---- variables

pub whole_is : (l ts : List ℕ) (k a q t : ℕ) (i : Info) (h : ℕ) (r : Got) (l' : List ℕ) → i ≡ info_of l ts k → h ≡ host_in l ts k → Makes (cells_made i.size h a q t l) r l' → Makes (whole_made l ts k a q t) r l'
unfolding whole_made
whole_is l ts k a q t i h r l' e f m = rw (← e, ← f) m

-- ---- names by their meaning

module _ (l ts : List ℕ) (m : Meaning) (q t : ℕ) (r : Got) where
  pub named-unknown : m ≡ meaning.Unknown → r ≡ failed_got Name 0 q t → Makes (named_made l ts m q t) r l
  named-unknown e f = rw e (record { given = f; left = refl })

  pub named-type : (k : ℕ) → m ≡ meaning.Type k → r ≡ failed_got Name 0 q t → Makes (named_made l ts m q t) r l
  named-type k e f = rw e (record { given = f; left = refl })

  pub named-proc : (p : ℕ) → m ≡ meaning.Proc p → r ≡ failed_got Name 0 q t → Makes (named_made l ts m q t) r l
  named-proc p e f = rw e (record { given = f; left = refl })

  pub named-var : (i k a : ℕ) (l' : List ℕ) → m ≡ meaning.Var i k a → Makes (whole_made l ts k a q t) r l' → Makes (named_made l ts m q t) r l'
  named-var i k a l' e f = rw e f

  pub named_value : (k n : ℕ) (l' : List ℕ) → m ≡ meaning.Value k n → Makes (node_made k q (lay (1 ∷ n ∷ []) t l)) r l' → Makes (named_made l ts m q t) r l'
  named_value k n l' e f = rw e f

pub ruleset named-laws = (named-unknown, named-type, named-proc, named-var, named_value)

module _ (l : List ℕ) (m : Meaning) (q t : ℕ) (r : Got) where
  pub place-unknown : m ≡ meaning.Unknown → r ≡ failed_got Name 0 q t → Makes (place_made l m q t) r l
  place-unknown e f = rw e (record { given = f; left = refl })

  pub place-type : (k : ℕ) → m ≡ meaning.Type k → r ≡ failed_got Name 0 q t → Makes (place_made l m q t) r l
  place-type k e f = rw e (record { given = f; left = refl })

  pub place-proc : (p : ℕ) → m ≡ meaning.Proc p → r ≡ failed_got Name 0 q t → Makes (place_made l m q t) r l
  place-proc p e f = rw e (record { given = f; left = refl })

  pub place-value : (k n : ℕ) → m ≡ meaning.Value k n → r ≡ failed_got Name 0 q t → Makes (place_made l m q t) r l
  place-value k n e f = rw e (record { given = f; left = refl })

  pub place-var : (i k a : ℕ) (l' : List ℕ) → m ≡ meaning.Var i k a → Makes (node_made k q (lay (40 ∷ a ∷ []) t l)) r l' → Makes (place_made l m q t) r l'
  place-var i k a l' e f = rw e f

pub ruleset place-laws = (place-unknown, place-type, place-proc, place-value, place-var)

-- ---- `first` and `last`

module _ (l ts : List ℕ) (last : Bool) (k q t : ℕ) (i : Info) (e : i ≡ info_of l ts k) (r : Got) where
  pub end-ordinal : (h n : ℕ) (l' : List ℕ) → i.shape ≡ 0 → h ≡ host_in l ts k → n ≡ end_bits last i → Makes (node_made h q (lay (1 ∷ n ∷ []) t l)) r l' → Makes (end_made l ts last k q t) r l'
  unfolding end_made
  end-ordinal h n l' z f g m = rw (← e, eq-eqb i.shape 0 z, ← f, ← g) m

  pub end-other : ((i.shape ≡ 0) → ⊥) → r ≡ failed_got Kind 0 q t → Makes (end_made l ts last k q t) r l
  unfolding end_made
  end-other z m = rw (← e, ne_eqb i.shape 0 z) (record { given = m; left = refl })

pub ruleset end-laws = (end-ordinal, end-other)

module _ (l ts : List ℕ) (last : Bool) (f : Fault) (k q t : ℕ) (r : Got) (b : Bool) (h : b ≡ is_clear f) where
  pub bound-clear : b ≡ true → (l' : List ℕ) → Makes (end_made l ts last k q t) r l' → Makes (bound_made l ts last f k q t) r l'
  unfolding bound_made
  bound-clear z l' m = if-clear f 0 q t l (end_made l ts last k q t) b h z r l' m

  pub bound-fault : b ≡ false → r ≡ failed_got f 0 q t → Makes (bound_made l ts last f k q t) r l
  unfolding bound_made
  bound-fault z m = if-fault f 0 q t l (end_made l ts last k q t) b h z r m

pub ruleset bound-of-laws = (bound-clear, bound-fault)

-- ---- a number alone

module _ (s : List ℕ) (z : ℤ) (at : ℕ) (e : Maybe ℕ) (h : Shuts s at e) where
  pub last-past : (q : ℕ) → SFits w64 z → e ≡ Some q → Ends s z at (Some (wire z, q))
  last-past q p f = record { says = (to_z-of_z p, rw f at h.says) }

  pub last_more : e ≡ None → Ends s z at None
  last_more f = record { says = rw f at h.says }

pub ruleset last-laws = (last-past, last_more)

module _ (s : List ℕ) (w : Word) (at : ℕ) (a : Atom) (e : a ≡ atom_of w) where
  pub after-number : (z : ℤ) (r : Maybe (ℤ × ℕ)) → a ≡ AT.Number z → SFits w64 z → Ends s (wire z) at r → After s w at r
  after-number z r f p h = record { says = rw (← e, f) (go r (rw (to_z-of_z p) at h)) }
    where
      go : (r : Maybe (ℤ × ℕ)) → Ends s z at r → AfterBy s (AT.Number z) at r
      go (Some (y, q)) g = (ap some (sym g.says.0), g.says.1)
      go None g = λ k. absurd (g.says k)

  pub after-other : ((z : ℤ) → a ≡ AT.Number z → ⊥) → After s w at None
  after-other n = record { says = rw (← e) (go a refl) }
    where
      go : (b : Atom) → a ≡ b → AfterBy s a at None
      go (AT.Number z) f = absurd (n z f)
      go AT.Named f = rw f (λ _. refl)
      go (AT.Truth b) f = rw f (λ _. refl)
      go AT.ErrorNumber f = rw f (λ _. refl)
      go (AT.Base k) f = rw f (λ _. refl)
      go AT.Nothing f = rw f (λ _. refl)

pub ruleset after-laws = (after-number, after-other)

no_number : number_in end ≡ none
unfolding number_in part_of ◌>>=◌
no_number = refl

module _ (s : List ℕ) (at : ℕ) (x : Part) (h : Stands s at x) where
  pub alone-leaf : (w : Word) (p q : ℕ) (r : Maybe (ℤ × ℕ)) → x ≡ part.Leaf w p q → After s w q r → StandsAlone s at r
  alone-leaf w p q r e A =
      let g : LeafAt s at p q × (w ≡ word_of (word_at s p)) = rw e at h.says in
      let b : Before s at (word (word_at s p)) q = g.0.leaf in
      let i : number_in (first (stack_at s at)) ≡ atom_number (atom_of w) = ap number_in b.here ∙ number_word (word_at s p) (first (stack_at s q)) ∙ ap (λ v. atom_number (atom_of v)) (sym g.1) in
      let j : rest (first (stack_at s at)) ≡ first (stack_at s q) = ap rest b.here in
      record { says = go r i j b.around A.says }
    where
      go : (r : Maybe (ℤ × ℕ)) → number_in (first (stack_at s at)) ≡ atom_number (atom_of w) → rest (first (stack_at s at)) ≡ first (stack_at s q) → later (stack_at s at) ≡ later (stack_at s q)
          → AfterBy s (atom_of w) q r → StandsAloneBy s at r
      go (Some (z, n)) i j b a = (i ∙ a.0, j ∙ a.1.here, b ∙ a.1.around)
      go None i j b a = λ k. i ∙ a (sym j ∙ k)

  alone-form : (p : ℕ) → x ≡ part.Form p → StandsAlone s at None
  alone-form p e =
      let g : FormAt s at p = rw e at h.says in
      record { says = λ _. ap number_in g.here ∙ number-form (first (stack_at s p)) (first (later (stack_at s p))) }

  alone-shut : (q : ℕ) → x ≡ part.Shut q → StandsAlone s at None
  alone-shut q e =
      let g : ShutAt s at q = rw e at h.says in
      record { says = λ _. ap number_in g.here ∙ no_number }

  pub alone-none : ((w : Word) (p q : ℕ) → x ≡ part.Leaf w p q → ⊥) → StandsAlone s at None
  alone-none n = go x refl
    where
      go : (y : Part) → x ≡ y → StandsAlone s at None
      go (part.Leaf w p q) e = absurd (n w p q e)
      go (part.Form p) e = alone-form p e
      go (part.Shut p) e = alone-shut p e

pub ruleset alone-laws = (alone-leaf, alone-none)

-- ---- the constant `(- z)`

module _ (z : ℤ) (fit : SFits w64 z) (q t : ℕ) (l : List ℕ) (n : Num) (e : n ≡ exact (neg_ℤ (wire z))) (r : Got) where
  exact-is : n ≡ pick (inside least most (neg_ℤ z)) (Ok (neg_ℤ z)) (Err Overflow)
  unfolding exact ranged
  exact-is = rw (to_z-of_z fit) at e

  pub negative-in : (v : ℤ) (l' : List ℕ) → n ≡ Ok v → SFits w64 v → Makes (literal_made 0 (wire v) q t l) r l' → Makes (literal_made 0 (neg_ℤ z) q t l) r l'
  unfolding pick
  negative-in v l' f p m = let k : v ≡ neg_ℤ z = go (inside least most (neg_ℤ z)) (sym f ∙ exact-is) in rw (← k) (rw (to_z-of_z p) at m)
    where
      go : (b : Bool) → Ok v ≡ pick b (Ok (neg_ℤ z)) (Err Overflow) → v ≡ neg_ℤ z
      go true h = cc
      go false h = absurd (let u : ◌≡◌ {A = ℕ} 0 1 = cc in omega arith)

  pub negative-out : (f : ArithFault.Fault) → n ≡ Err f → r ≡ failed_got Kind 0 q t → Makes (literal_made 0 (neg_ℤ z) q t l) r l
  unfolding pick literal_made
  negative-out f g m = let k : inside least most (neg_ℤ z) ≡ false = go (inside least most (neg_ℤ z)) (sym g ∙ exact-is) in rw k (record { given = m; left = refl })
    where
      go : (b : Bool) → Err f ≡ pick b (Ok (neg_ℤ z)) (Err Overflow) → b ≡ false
      go true h = absurd (let u : ◌≡◌ {A = ℕ} 0 1 = cc in omega arith)
      go false h = refl

pub ruleset negative-laws = (negative-in, negative-out)
