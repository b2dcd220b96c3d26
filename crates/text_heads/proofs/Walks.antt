-- Options asked in one order or another; a function of a form's words read, part by part.
use mathlib.Core.Path.{◌≡◌, refl, sym, ◌∙◌}
use mathlib.Core.List.{List, [], ◌∷◌}
use mathlib.Core.Option.{Option, none, some}
use Rattle.law.specs.Base.{Name, ◌>>=◌}
use Rattle.law.specs.Forms.{Item, key_of, first?, one, two}
use Rattle.law.specs.Trees.{Tree, word, form, Trees, end, ◌then◌, Run, list}
use Rattle.law.specs.Words.{Word, worded, worded_all, word_by}
use Rattle.leaf_words.specs.Words.{word_of}
use Rattle.text_heads.specs.Parts.{part_of, rest, closed, key_in}

-- ---- options

pub bind-none : {A B : Type 0} (o : Option A) → ◌≡◌ {A = Option B} (o >>= λ (a : A). none) none
unfolding ◌>>=◌
bind-none none = refl
bind-none (some a) = refl

module _ {A B : Type 0} where
  pub bind-cong : (o : Option A) {f g : A → Option B} → ((a : A) → f a ≡ g a) → (o >>= f) ≡ (o >>= g)
  unfolding ◌>>=◌
  bind-cong none h = refl
  bind-cong (some a) h = h a

  pub bind-nones : (o : Option A) {f : A → Option B} → ((a : A) → f a ≡ none) → (o >>= f) ≡ none
  bind-nones o h = bind-cong o h ∙ bind-none o

  pub bind_assoc : {C : Type 0} (o : Option A) (f : A → Option B) (g : B → Option C) → ((o >>= f) >>= g) ≡ (o >>= λ (a : A). f a >>= g)
  unfolding ◌>>=◌
  bind_assoc none f g = refl
  bind_assoc (some a) f g = refl

  -- p may be asked before or after f
  pub bind-swap : {P C : Type 0} (o : Option A) (p : Option P) (f : A → Option B) (g : B → P → Option C)
      → (o >>= λ (a : A). p >>= λ (v : P). f a >>= λ (b : B). g b v) ≡ ((o >>= f) >>= λ (b : B). p >>= λ (v : P). g b v)
  unfolding ◌>>=◌
  bind-swap none p f g = refl
  bind-swap (some a) (some v) f g = refl
  bind-swap (some a) none f g = sym (bind-none (f a))

-- ---- the parts of a form, one by one

-- K takes the first part by f and the others by g
pub first_part : {A C : Type 0} (K : List Item → Option C) (f : Item → Option A) (g : A → List Item → Option C)
    → ((v : Item) (vs : List Item) → K (v ∷ vs) ≡ (f v >>= λ (a : A). g a vs)) → (t : Tree Run) (ts : Trees Run)
    → (worded_all (t then ts) >>= λ (vs : Trees Word). K (list vs)) ≡ ((worded t >>= f) >>= λ (a : A). worded_all ts >>= λ (vs : Trees Word). g a (list vs))
unfolding ◌>>=◌ worded list
first_part {A} {C} K f g h t ts = go (worded t) (worded_all ts)
  where
    go : (o : Option Item) (p : Option (Trees Word))
        → ((o >>= λ (v : Item). p >>= λ (vs : Trees Word). some (v then vs)) >>= λ (vs : Trees Word). K (list vs))
        ≡ ((o >>= f) >>= λ (a : A). p >>= λ (vs : Trees Word). g a (list vs))
    go none p = refl
    go (some v) none = sym (bind-none (f v))
    go (some v) (some vs) = h v (list vs)

-- K wants at least one part
pub next-part : {A C : Type 0} (K : List Item → Option C) (f : Item → Option A) (g : A → List Item → Option C)
    → K [] ≡ none → ((v : Item) (vs : List Item) → K (v ∷ vs) ≡ (f v >>= λ (a : A). g a vs)) → (us : Trees Run)
    → (worded_all us >>= λ (vs : Trees Word). K (list vs)) ≡ ((part_of us >>= f) >>= λ (a : A). worded_all (rest us) >>= λ (vs : Trees Word). g a (list vs))
unfolding ◌>>=◌ worded list part_of
next-part K f g z h end = z
next-part K f g z h (t then ts) = first_part K f g h t ts

-- K wants no part more
pub last-part : {C : Type 0} (K : List Item → Option C) (c : C) → K [] ≡ some c → ((v : Item) (vs : List Item) → K (v ∷ vs) ≡ none)
    → (us : Trees Run) → (worded_all us >>= λ (vs : Trees Word). K (list vs)) ≡ closed us c
unfolding ◌>>=◌ worded list closed
last-part K c z h end = z
last-part {C} K c z h (t then ts) = go (worded t) (worded_all ts)
  where
    go : (o : Option Item) (p : Option (Trees Word))
        → ((o >>= λ (v : Item). p >>= λ (vs : Trees Word). some (v then vs)) >>= λ (vs : Trees Word). K (list vs)) ≡ none
    go none p = refl
    go (some v) none = refl
    go (some v) (some vs) = h v (list vs)

-- nothing is left
unfoldable pub ended : {C : Type 0} → C → List Item → Option C
ended c [] = some c
ended c (v ∷ vs) = none

pub ended-part : {C : Type 0} (c : C) (us : Trees Run) → (worded_all us >>= λ (vs : Trees Word). ended c (list vs)) ≡ closed us c
unfolding ended
ended-part c us = last-part (λ (vs : List Item). ended c vs) c refl (λ v vs. refl) us

module _ {A C : Type 0} (f : Item → Option A) where
  -- one part
  pub one_then : (h : A → C) (us : Trees Run)
      → (worded_all us >>= λ (vs : Trees Word). one (list vs) >>= f >>= λ (a : A). some (h a)) ≡ ((part_of us >>= f) >>= λ (a : A). closed (rest us) (h a))
  unfolding ◌>>=◌ one ended
  one_then h us =
      next-part (λ (vs : List Item). one vs >>= f >>= λ (a : A). some (h a)) f (λ (a : A) (vs : List Item). ended (h a) vs) refl step us
      ∙ bind-cong (part_of us >>= f) (λ (a : A). ended-part (h a) (rest us))
    where
      step : (v : Item) (vs : List Item) → (one (v ∷ vs) >>= f >>= λ (a : A). some (h a)) ≡ (f v >>= λ (a : A). ended (h a) vs)
      step v [] = refl
      step v (x ∷ xs) = sym (bind-none (f v))

  -- two parts
  pub two_then : {B : Type 0} (g : Item → Option B) (h : A → B → C) (us : Trees Run)
      → (worded_all us >>= λ (vs : Trees Word). two (list vs) >>= λ (p : Item × Item). f p.0 >>= λ (a : A). g p.1 >>= λ (b : B). some (h a b))
      ≡ ((part_of us >>= f) >>= λ (a : A). (part_of (rest us) >>= g) >>= λ (b : B). closed (rest (rest us)) (h a b))
  unfolding ◌>>=◌ one two ended
  two_then {B} g h us =
      next-part (λ (vs : List Item). two vs >>= λ (p : Item × Item). f p.0 >>= λ (a : A). g p.1 >>= λ (b : B). some (h a b)) f rest_of refl step us
      ∙ bind-cong (part_of us >>= f) (λ (a : A).
      next-part (rest_of a) g (λ (b : B) (vs : List Item). ended (h a b) vs) refl (step2 a) (rest us)
      ∙ bind-cong (part_of (rest us) >>= g) (λ (b : B). ended-part (h a b) (rest (rest us))))
    where
      rest_of : A → List Item → Option C
      rest_of a vs = one vs >>= g >>= λ (b : B). some (h a b)

      step : (v : Item) (vs : List Item)
          → (two (v ∷ vs) >>= λ (p : Item × Item). f p.0 >>= λ (a : A). g p.1 >>= λ (b : B). some (h a b)) ≡ (f v >>= λ (a : A). rest_of a vs)
      step v [] = sym (bind-none (f v))
      step v (x ∷ []) = refl
      step v (x ∷ (y ∷ ys)) = sym (bind-none (f v))

      step2 : (a : A) (v : Item) (vs : List Item) → rest_of a (v ∷ vs) ≡ (g v >>= λ (b : B). ended (h a b) vs)
      step2 a v [] = refl
      step2 a v (x ∷ xs) = sym (bind-none (g v))

-- ---- a form by its head word

-- G takes a form by its head word and the other parts
module _ {A : Type 0} (G : Item → Option A) (F : Name → List Item → Option A)
    (H : (vs : Trees Word) → G (form vs) ≡ (first? (list vs) >>= λ (p : Name × List Item). F p.0 p.1)) where
  pub headed-form : (w : Run) (us : Trees Run)
      → (worded (form (word w then us)) >>= G) ≡ (key_in w >>= λ (k : Name). worded_all us >>= λ (vs : Trees Word). F k (list vs))
  unfolding ◌>>=◌ worded list key_in first?
  headed-form w us = go (word_by (word_of w) w) (worded_all us)
    where
      key : (v : Word) (vs : Trees Word) (k : Option Name) → key_of (word v) ≡ k
          → (first? (list (word v then vs)) >>= λ (p : Name × List Item). F p.0 p.1) ≡ (k >>= λ (n : Name). F n (list vs))
      key v vs none e = rw e refl
      key v vs (some n) e = rw e refl

      go : (o : Option Word) (p : Option (Trees Word))
          → ((((o >>= λ (v : Word). some (word v)) >>= λ (v : Item). p >>= λ (vs : Trees Word). some (v then vs)) >>= λ (vs : Trees Word). some (form vs)) >>= G)
          ≡ ((o >>= λ (v : Word). key_of (word v)) >>= λ (k : Name). p >>= λ (vs : Trees Word). F k (list vs))
      go none p = refl
      go (some v) none = sym (bind-none (key_of (word v)))
      go (some v) (some vs) = H (word v then vs) ∙ key v vs (key_of (word v)) refl

  pub empty-form : (worded (form end) >>= G) ≡ none
  unfolding ◌>>=◌ worded list first?
  empty-form = H end

  pub headless-form : (us ts : Trees Run) → (worded (form (form us then ts)) >>= G) ≡ none
  unfolding ◌>>=◌ worded list first? key_of
  headless-form us ts = go (worded_all us) (worded_all ts)
    where
      go : (o p : Option (Trees Word))
          → ((((o >>= λ (vs : Trees Word). some (form vs)) >>= λ (v : Item). p >>= λ (vs : Trees Word). some (v then vs)) >>= λ (vs : Trees Word). some (form vs)) >>= G) ≡ none
      go none p = refl
      go (some vs) none = refl
      go (some vs) (some ws) = H (form vs then ws)
