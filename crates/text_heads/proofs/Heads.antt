-- The heads and atoms of the code are those of the definition: each table of words there, looked up by a word of the fixed table.
use mathlib.Core.Path.{◌≡◌, refl, sym, ap, subst, ◌∙◌}
use mathlib.Core.Bool.{Bool, true, false, cond, ◌&&◌}
use mathlib.Core.List.{List, [], ◌∷◌, map}
use mathlib.Core.Option.{Option, none, some}
use Prim.Native.Nat.{ℕ, zero, suc, ◌+◌, ◌-◌, ◌<◌}
use native.Mathlib.Omega.{arith}
use borrow.Author.Tests.{lt-ltb, le-ltb, ltb-true, ltb-false}
use lib.Dec.{eqb, leb, ltb}
use lib.IntN.{ℤ}
use lib.ListN.{length, get_or, get_or-map}
use Rattle.leaf_reserved.proofs.Places.{fixed-count}
use Rattle.leaf_bytes.proofs.Same.{same-equal}
use Rattle.leaf_bytes.specs.Bytes.{bytes, small, same}
use Rattle.leaf_bytes.specs.Names.{is_name}
use Rattle.leaf_words.specs.Numbers.{number_of, hex_of, hexadecimal, decimal_of, decimal, numeral}
use Rattle.leaf_reserved.specs.Table.{reserved, operators, fixed, position, place_of}
use Rattle.leaf_words.specs.Words.{word_of, named, placed}
use Rattle.std.specs.Prelude as P
use Rattle.std.specs.Prelude.{Some, None}
use Rattle.leaf_words.specs.declared.words.Word as Kind
use Rattle.leaf_words.specs.declared.words.Word.TheVariants as W
use Rattle.law.specs.Base.{Name, ◌>>=◌, either, given, pick}
use Rattle.law.specs.Forms.{Item, key_of, free, is_number, type_name, constant, atom, headed, among, truths, heads, verbs, arm_heads, makers, line_heads}
use Rattle.law_theorems.specs.FormsByDepth.{expr, target}
use Rattle.law.specs.Trees.{word, Trees, ◌then◌, Run}
use Rattle.law.specs.Words.{Word, number, name, key, worded, word_by}
use Rattle.text_heads.specs.Heads.{reserved_expr, operator_expr, reserved_verb, operator_verb, reserved_arm, reserved_maker, reserved_line, reserved_atom, expr_head_of, verb_of, arm_head_of, maker_of, line_head_of, atom_of, is_exception, target_pick, minus_pick, expr_head_meant, verb_meant, arm_head_meant, maker_meant, line_head_meant, atom_expr, atom_constant, atom_type, atom_target, atom_name, atom_number}
use Rattle.text_heads.specs.Parts.{part_of, key_in, expr_in, target_in, name_in, number_in, type_name_in, constant_in}

-- ---- what a word of each kind is spelt as

pub data Spelt (w : Run) : Kind.Word → Type 0 where
  spelt-number : (z : ℤ) → Spelt w (W.Number z)
  spelt-name : Spelt w W.Name
  spelt-reserved : (k : ℕ) → k < 46 → get_or fixed k [] ≡ map small w → Spelt w (W.Reserved k)
  spelt-operator : (k : ℕ) → k < 11 → get_or fixed (46 + k) [] ≡ map small w → Spelt w (W.Operator k)
  spelt-unknown : Spelt w W.Unknown

decimal-spelt : (w : Run) (n : P.Option ℕ) → Spelt w (decimal n)
unfolding decimal
decimal-spelt w (Some n) = spelt-number _
decimal-spelt w None = spelt-unknown

hexadecimal-spelt : (w : Run) (n : P.Option ℕ) → Spelt w (hexadecimal n)
unfolding hexadecimal
hexadecimal-spelt w (Some n) = spelt-number _
hexadecimal-spelt w None = spelt-unknown

either-spelt : (w : Run) (t : Bool) (a b : Kind.Word) → Spelt w a → Spelt w b → Spelt w (cond t a b)
either-spelt w true a b p q = p
either-spelt w false a b p q = q

number-spelt : (w v : Run) → Spelt w (number_of v)
unfolding number_of hex_of decimal_of
number-spelt w [] = spelt-unknown
number-spelt w (b ∷ bs) =
    either-spelt w (eqb b 35) (hex_of bs) (decimal_of (b ∷ bs)) (either-spelt w (leb 1 (length bs) && leb (length bs) 8) (hexadecimal (numeral 16 4294967295 bs)) W.Unknown (hexadecimal-spelt w (numeral 16 4294967295 bs)) spelt-unknown)
    (decimal-spelt w (numeral 10 2147483647 (b ∷ bs)))

named-spelt : (w : Run) (t : Bool) → Spelt w (named t w)
unfolding named
named-spelt w true = spelt-name
named-spelt w false = number-spelt w w

-- the list at a word's place is that word
position-same : (w : Name) (vs : List Name) → position w vs < length vs → get_or vs (position w vs) [] ≡ w
unfolding position
position-same w [] l = absurd (omega arith)
position-same w (v ∷ vs) l = go (λ h. position-same w vs h) (same w v) refl l
  where
    go : (position w vs < length vs → get_or vs (position w vs) [] ≡ w) → (t : Bool) → same w v ≡ t → cond t 0 (suc (position w vs)) < suc (length vs) → get_or (v ∷ vs) (cond t 0 (suc (position w vs))) [] ≡ w
    go again true e h = sym (same-equal w v e)
    go again false e h = again (omega arith)

place_same : (w : Run) → place_of w < 57 → get_or fixed (place_of w) [] ≡ map small w
unfolding place_of
place_same w l = position-same (map small w) fixed (subst (λ (n : ℕ). position (map small w) fixed < n) (sym fixed-count) l)

pub spelt : (w : Run) → Spelt w (word_of w)
unfolding word_of placed
spelt w = go (ltb (place_of w) 46) (ltb (place_of w) 57) refl refl
  where
    go : (s t : Bool) → ltb (place_of w) 46 ≡ s → ltb (place_of w) 57 ≡ t → Spelt w (placed s t (place_of w) (named (is_name w) w))
    go true t e f = spelt-reserved (place_of w) (ltb-true _ _ e) (place_same w (omega (arith, ltb-true (place_of w) 46 e)))
    go false true e f =
        let l = ltb-true (place_of w) 57 f in
        let g = ltb-false (place_of w) 46 e in
        let z : 46 + (place_of w - 46) ≡ place_of w = omega arith in
        spelt-operator (place_of w - 46) (omega arith) (rw z (place_same w l))
    go false false e f = named-spelt w (is_name w)

-- ---- a function of words, by a table of what it gives of the fixed words

unfoldable from : {A : Type 0} → (ℕ → A) → ℕ → ℕ → List A
from F i zero = []
from F i (suc n) = F i ∷ from F (suc i) n

from_at : {A : Type 0} (F : ℕ → A) (i n k : ℕ) (d : A) → k < n → get_or (from F i n) k d ≡ F (i + k)
unfolding from
from_at F i zero k d l = absurd (omega arith)
from_at F i (suc n) zero d l = let z : i + 0 ≡ i = omega arith in rw z refl
from_at F i (suc n) (suc k) d l = let z : i + suc k ≡ suc i + k = omega arith in rw z (from_at F (suc i) n k d (omega arith))

-- the fixed word at a place
unfoldable fixed_word : ℕ → Kind.Word
fixed_word k = placed (ltb k 46) (ltb k 57) k W.Unknown

module _ {A : Type 0} (G : Item → Option A) (H : Kind.Word → Name → Option A)
    (h_number : (z : ℤ) (n : Name) → G (word (number z)) ≡ H (W.Number z) n) (h_name : (n : Name) → G (word (name n)) ≡ H W.Name n)
    (h_unknown : (n : Name) → none ≡ H W.Unknown n)
    (table : map (λ (n : Name). G (word (key n))) fixed ≡ from (λ (k : ℕ). H (fixed_word k) (get_or fixed k [])) 0 57) where
  entry : (k : ℕ) → k < 57 → G (word (key (get_or fixed k []))) ≡ H (fixed_word k) (get_or fixed k [])
  entry k l =
      let z : 0 + k ≡ k = omega arith in
      sym (get_or-map (λ (n : Name). G (word (key n))) fixed k [])
      ∙ ap (λ (os : List (Option A)). get_or os k (G (word (key [])))) table
      ∙ from_at (λ (i : ℕ). H (fixed_word i) (get_or fixed i [])) 0 57 k (G (word (key []))) l
      ∙ ap (λ (i : ℕ). H (fixed_word i) (get_or fixed i [])) z

  by_word : (w : Run) → (worded (word w) >>= G) ≡ H (word_of w) (map small w)
  unfolding worded word_by ◌>>=◌ fixed_word placed
  by_word w = go (word_of w) (spelt w)
    where
      go : (v : Kind.Word) → Spelt w v → ((word_by v w >>= λ (x : Word). some (word x)) >>= G) ≡ H v (map small w)
      go _ (spelt-number z) = h_number z (map small w)
      go _ spelt-name = h_name (map small w)
      go _ (spelt-reserved k l e) =
          let h : G (word (key (get_or fixed k []))) ≡ H (fixed_word k) (get_or fixed k []) = entry k (omega arith) in
          let f : fixed_word k ≡ W.Reserved k = rw (lt-ltb k 46 l) refl in
          rw (← e) (h ∙ ap (λ (v : Kind.Word). H v (get_or fixed k [])) f)
      go _ (spelt-operator k l e) =
          let h : G (word (key (get_or fixed (46 + k) []))) ≡ H (fixed_word (46 + k)) (get_or fixed (46 + k) []) = entry (46 + k) (omega arith) in
          let z : 46 + k - 46 ≡ k = omega arith in
          let f : fixed_word (46 + k) ≡ W.Operator k = rw (le-ltb (46 + k) 46 (omega arith), lt-ltb (46 + k) 57 (omega arith), z) refl in
          rw (← e) (h ∙ ap (λ (v : Kind.Word). H v (get_or fixed (46 + k) [])) f)
      go _ spelt-unknown = h_unknown (map small w)

-- a function of a word's key
key-in : {A : Type 0} (f : Name → Option A) (w : Run) → (key_in w >>= f) ≡ (worded (word w) >>= λ (t : Item). key_of t >>= f)
unfolding key_in worded ◌>>=◌
key-in {A} f w = go (word_by (word_of w) w)
  where
    go : (o : Option Word) → ((o >>= λ (v : Word). key_of (word v)) >>= f) ≡ ((o >>= λ (v : Word). some (word v)) >>= λ (t : Item). key_of t >>= f)
    go none = refl
    go (some v) = refl

-- ---- heads

pub expr-head-is : (w : Run) → (key_in w >>= among heads) ≡ expr_head_meant (expr_head_of (word_of w))
unfolding key_of ◌>>=◌ among heads same bytes fixed reserved operators from fixed_word placed reserved_expr operator_expr
expr-head-is w = key-in (among heads) w
    ∙ by_word (λ (t : Item). key_of t >>= among heads) (λ (v : Kind.Word) (n : Name). expr_head_meant (expr_head_of v)) (λ z n. refl) (λ n. refl) (λ n. refl) refl w

pub verb-is : (w : Run) → (key_in w >>= among verbs) ≡ verb_meant (verb_of (word_of w))
unfolding key_of ◌>>=◌ among verbs same bytes fixed reserved operators from fixed_word placed reserved_verb operator_verb
verb-is w = key-in (among verbs) w
    ∙ by_word (λ (t : Item). key_of t >>= among verbs) (λ (v : Kind.Word) (n : Name). verb_meant (verb_of v)) (λ z n. refl) (λ n. refl) (λ n. refl) refl w

pub arm-head-is : (w : Run) → (key_in w >>= among arm_heads) ≡ arm_head_meant (arm_head_of (word_of w))
unfolding key_of ◌>>=◌ among arm_heads same bytes fixed reserved operators from fixed_word placed reserved_arm
arm-head-is w = key-in (among arm_heads) w
    ∙ by_word (λ (t : Item). key_of t >>= among arm_heads) (λ (v : Kind.Word) (n : Name). arm_head_meant (arm_head_of v)) (λ z n. refl) (λ n. refl) (λ n. refl) refl w

pub maker-is : (w : Run) → (key_in w >>= among makers) ≡ maker_meant (maker_of (word_of w))
unfolding key_of ◌>>=◌ among makers same bytes fixed reserved operators from fixed_word placed reserved_maker
maker-is w = key-in (among makers) w
    ∙ by_word (λ (t : Item). key_of t >>= among makers) (λ (v : Kind.Word) (n : Name). maker_meant (maker_of v)) (λ z n. refl) (λ n. refl) (λ n. refl) refl w

pub line-head-is : (w : Run) → (key_in w >>= among line_heads) ≡ line_head_meant (line_head_of (word_of w))
unfolding key_of ◌>>=◌ among line_heads same bytes fixed reserved operators from fixed_word placed reserved_line
line-head-is w = key-in (among line_heads) w
    ∙ by_word (λ (t : Item). key_of t >>= among line_heads) (λ (v : Kind.Word) (n : Name). line_head_meant (line_head_of v)) (λ z n. refl) (λ n. refl) (λ n. refl) refl w

pub exception-is : {A : Type 0} (x : A) (w : Run)
    → (key_in w >>= λ (k : Name). given (same (bytes "exception") k) x) ≡ given (is_exception (word_of w)) x
unfolding key_of ◌>>=◌ given same bytes fixed reserved operators from fixed_word placed
exception-is x w = key-in (λ (k : Name). given (same (bytes "exception") k) x) w
    ∙ by_word (λ (t : Item). key_of t >>= λ (k : Name). given (same (bytes "exception") k) x) (λ (v : Kind.Word) (n : Name). given (is_exception v) x)
    (λ z n. refl) (λ n. refl) (λ n. refl) refl w

pub target-head-is : {A : Type 0} (x y : Option A) (w : Run)
    → (key_in w >>= λ (k : Name). pick (same (bytes "at") k) x (pick (same (bytes "dot") k) y none)) ≡ target_pick x y (expr_head_of (word_of w))
unfolding key_of ◌>>=◌ pick same bytes fixed reserved operators from fixed_word placed reserved_expr operator_expr
target-head-is x y w = key-in (λ (k : Name). pick (same (bytes "at") k) x (pick (same (bytes "dot") k) y none)) w
    ∙ by_word (λ (t : Item). key_of t >>= λ (k : Name). pick (same (bytes "at") k) x (pick (same (bytes "dot") k) y none)) (λ (v : Kind.Word) (n : Name). target_pick x y (expr_head_of v))
    (λ z n. refl) (λ n. refl) (λ n. refl) refl w

pub minus-head-is : {A : Type 0} (x : Option A) (w : Run)
    → (key_in w >>= λ (k : Name). pick (same (bytes "-") k) x none) ≡ minus_pick x (expr_head_of (word_of w))
unfolding key_of ◌>>=◌ pick same bytes fixed reserved operators from fixed_word placed reserved_expr operator_expr
minus-head-is x w = key-in (λ (k : Name). pick (same (bytes "-") k) x none) w
    ∙ by_word (λ (t : Item). key_of t >>= λ (k : Name). pick (same (bytes "-") k) x none) (λ (v : Kind.Word) (n : Name). minus_pick x (expr_head_of v))
    (λ z n. refl) (λ n. refl) (λ n. refl) refl w

-- ---- a word alone

pub expr-word : (d : ℕ) (w : Run) (ts : Trees Run) → expr_in (suc d) (word w then ts) ≡ atom_expr (atom_of (word_of w)) (map small w)
unfolding expr_in part_of expr atom constant headed truths key_of free is_number either ◌>>=◌ among same bytes fixed reserved operators from fixed_word placed reserved_atom
expr-word d w ts =
    by_word (λ (t : Item). expr (suc d) t) (λ (v : Kind.Word) (n : Name). atom_expr (atom_of v) n) (λ z n. refl) (λ n. refl) (λ n. refl) refl w

pub constant-word : (w : Run) (ts : Trees Run) → constant_in (word w then ts) ≡ atom_constant (atom_of (word_of w)) (map small w)
unfolding constant_in part_of constant headed truths key_of free is_number either ◌>>=◌ among same bytes fixed reserved operators from fixed_word placed reserved_atom
constant-word w ts =
    by_word (λ (t : Item). constant t) (λ (v : Kind.Word) (n : Name). atom_constant (atom_of v) n) (λ z n. refl) (λ n. refl) (λ n. refl) refl w

pub type-word : (w : Run) (ts : Trees Run) → type_name_in (word w then ts) ≡ atom_type (atom_of (word_of w)) (map small w)
unfolding type_name_in part_of type_name key_of free either ◌>>=◌ among same bytes fixed reserved operators from fixed_word placed reserved_atom
type-word w ts =
    by_word (λ (t : Item). type_name t) (λ (v : Kind.Word) (n : Name). atom_type (atom_of v) n) (λ z n. refl) (λ n. refl) (λ n. refl) refl w

pub target-word : (d : ℕ) (w : Run) (ts : Trees Run) → target_in (suc d) (word w then ts) ≡ atom_target (atom_of (word_of w)) (map small w)
unfolding target_in part_of expr free ◌>>=◌ fixed reserved operators from fixed_word placed reserved_atom
target-word d w ts =
    by_word (λ (t : Item). target (suc d) t) (λ (v : Kind.Word) (n : Name). atom_target (atom_of v) n) (λ z n. refl) (λ n. refl) (λ n. refl) refl w

pub name-word : (w : Run) (ts : Trees Run) → name_in (word w then ts) ≡ atom_name (atom_of (word_of w)) (map small w)
unfolding name_in part_of free ◌>>=◌ fixed reserved operators from fixed_word placed reserved_atom
name-word w ts =
    by_word (λ (t : Item). free t) (λ (v : Kind.Word) (n : Name). atom_name (atom_of v) n) (λ z n. refl) (λ n. refl) (λ n. refl) refl w

pub number_word : (w : Run) (ts : Trees Run) → number_in (word w then ts) ≡ atom_number (atom_of (word_of w))
unfolding number_in part_of is_number ◌>>=◌ fixed reserved operators from fixed_word placed reserved_atom
number_word w ts =
    by_word (λ (t : Item). is_number t) (λ (v : Kind.Word) (n : Name). atom_number (atom_of v)) (λ z n. refl) (λ n. refl) (λ n. refl) refl w
