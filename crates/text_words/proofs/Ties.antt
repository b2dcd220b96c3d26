-- What the passes say of a line at an offset, in the definitions' own words: its words (row 5), its count (row 9).
use mathlib.Core.Path.{◌≡◌, refl}
use mathlib.Core.Bool.{Bool, true, false, ◌&&◌, and-eq-true_iff}
use mathlib.Core.List.{[], ◌∷◌}
use mathlib.Core.Option.{none, some}
use Prim.Native.Nat.{ℕ}
use native.Mathlib.Omega.{arith}
use Rattle.leaf_words.specs.declared.words.Word as Kind
use Rattle.leaf_words.specs.declared.words.Word.TheVariants.{Number, Name, Reserved, Operator, Unknown}
use Rattle.leaf_words.specs.Words.{word_of}
use Rattle.law.specs.Base.{◌>>=◌}
use Rattle.law.specs.Trees.{Tree, word, form, Trees, end, ◌then◌, nodes, nodes_in, Run}
use Rattle.law.specs.Words.{Word, word_by, worded, worded_all}
use Rattle.text_words.specs.Passes.{is_known, known_tree, known_in, known_all, nodes_all}

-- ---- row 5

word-is : (k : Kind.Word) (w : Run) → is_known k ≡ true → (v : Word) × (word_by k w ≡ some v)
unfolding word_by
word-is (Number z) w h = (_, refl)
word-is Name w h = (_, refl)
word-is (Reserved n) w h = (_, refl)
word-is (Operator n) w h = (_, refl)
word-is Unknown w h = absurd (let y : ◌≡◌ {A = ℕ} 0 1 = cc in omega arith)

word_none : (k : Kind.Word) (w : Run) → is_known k ≡ false → word_by k w ≡ none
unfolding word_by
word_none (Number z) w h = absurd (let y : ◌≡◌ {A = ℕ} 0 1 = cc in omega arith)
word_none Name w h = absurd (let y : ◌≡◌ {A = ℕ} 0 1 = cc in omega arith)
word_none (Reserved n) w h = absurd (let y : ◌≡◌ {A = ℕ} 0 1 = cc in omega arith)
word_none (Operator n) w h = absurd (let y : ◌≡◌ {A = ℕ} 0 1 = cc in omega arith)
word_none Unknown w h = refl

mutual
  unfolding known_tree worded ◌>>=◌

  pub worded-some : (t : Tree Run) → known_tree t ≡ true → (v : Tree Word) × (worded t ≡ some v)
  worded-some (word w) h = let v = word-is (word_of w) w h in (word v.0, rw v.1)
  worded-some (form ts) h = let v = all-some ts h in (form v.0, rw v.1)

  all-some : (ts : Trees Run) → known_in ts ≡ true → (vs : Trees Word) × (worded_all ts ≡ some vs)
  all-some end h = (end, refl)
  all-some (t then ts) h =
      let p = (and-eq-true_iff (known_tree t) (known_in ts)).0 h in
      let v = worded-some t p.0 in let vs = all-some ts p.1 in (v.0 then vs.0, rw (v.1, vs.1))

mutual
  unfolding known_tree worded ◌>>=◌

  pub worded-none : (t : Tree Run) → known_tree t ≡ false → worded t ≡ none
  worded-none (word w) h = rw (word_none (word_of w) w h)
  worded-none (form ts) h = rw (all_none ts h)

  all_none : (ts : Trees Run) → known_in ts ≡ false → worded_all ts ≡ none
  all_none end h = absurd (let y : ◌≡◌ {A = ℕ} 0 1 = cc in omega arith)
  all_none (t then ts) h = go (known_tree t) refl (λ e. worded-none t e) (λ e. all_none ts e)
    where
      go : (b : Bool) → known_tree t ≡ b → (known_tree t ≡ false → worded t ≡ none) → (known_in ts ≡ false → worded_all ts ≡ none)
          → (worded t >>= λ v. worded_all ts >>= λ vs. some (v then vs)) ≡ none
      go false e f g = rw (f e)
      go true e f g = let v = worded-some t e in rw (v.1, g (rw e at h))

-- ---- a balanced line by itself: its words and its count

pub line_known : (f : Trees Run) → known_all ((form f then end) ∷ []) ≡ known_tree (form f)
unfolding known_all known_in
line_known f = go (known_in f)
  where
    go : (b : Bool) → ((b && true) && true) ≡ b
    go true = refl
    go false = refl

pub line-nodes : (f : Trees Run) → nodes_all ((form f then end) ∷ []) ≡ nodes (form f)
unfolding nodes_all nodes_in
line-nodes f = omega arith
