-- The stages of a form from those of its parts: general laws, over any form of one or two parts whose names, rules and kinds are its parts'.
use mathlib.Core.Path.{◌≡◌, refl, sym, ap, ◌∙◌}
use mathlib.Core.Bool.{Bool, true, false, ◌&&◌}
use mathlib.Core.Option.{Option, none, some}
use Prim.Native.Nat.{ℕ}
use Rattle.law.specs.Base.{◌>>=◌, both}
use Rattle.law.specs.Elaborate.{Elaborated}
use Rattle.rule_stages.specs.Stages.{Staged, wrong, unnamed, unfit, fits, ruled, named, staged, join, or_unfit, on_fits, selected, kept_if, unknown}

-- ---- binding

module _ {A B C : Type 0} where
  -- a part of what is given, then more
  pub bind-map : (u : Option A) (p : A → B) (f : B → Option C) → (u >>= λ a. f (p a)) ≡ ((u >>= λ a. some (p a)) >>= f)
  unfolding ◌>>=◌
  bind-map none p f = refl
  bind-map (some a) p f = refl

-- ---- a fault of one part

module _ {A B C : Type 0} (f : A → B → Staged C) where
  join-wrong : (x : Staged A) → join x wrong f ≡ wrong
  unfolding join
  join-wrong wrong = refl
  join-wrong unnamed = refl
  join-wrong unfit = refl
  join-wrong (fits a) = refl

  unnamed-ruled : (q : Bool) (v : Option B) → join unnamed (ruled q v) f ≡ unnamed
  unfolding join ruled
  unnamed-ruled false v = refl
  unnamed-ruled true none = refl
  unnamed-ruled true (some b) = refl

  unfit-ruled : (q : Bool) (v : Option B) → join unfit (ruled q v) f ≡ unfit
  unfolding join ruled
  unfit-ruled false v = refl
  unfit-ruled true none = refl
  unfit-ruled true (some b) = refl

  ruled-unnamed : (p : Bool) (u : Option A) → join (ruled p u) unnamed f ≡ unnamed
  unfolding join ruled
  ruled-unnamed false u = refl
  ruled-unnamed true none = refl
  ruled-unnamed true (some a) = refl

-- ---- two parts

module _ {A₁ A₂ A B₁ B₂ B C₁ C₂ C : Type 0}
    (n₁ : A₁ → Option B₁) (r₁ : B₁ → Bool) (e₁ : B₁ → Option C₁)
    (n₂ : A₂ → Option B₂) (r₂ : B₂ → Bool) (e₂ : B₂ → Option C₂)
    (n : A → Option B) (r : B → Bool) (e : B → Option C)
    (c : A₁ → A₂ → A) (c' : B₁ → B₂ → B) (g : C₁ → C₂ → Option C)
    (hn : (a : A₁) (b : A₂) → n (c a b) ≡ (n₁ a >>= λ x. n₂ b >>= λ y. some (c' x y)))
    (hr : (x : B₁) (y : B₂) → r (c' x y) ≡ (r₁ x && r₂ y))
    (he : (x : B₁) (y : B₂) → e (c' x y) ≡ both (e₁ x) (e₂ y) g) where
  two-ruled : (p q : Bool) (u : Option C₁) (v : Option C₂) → ruled (p && q) (both u v g) ≡ join (ruled p u) (ruled q v) (λ x y. or_unfit (g x y))
  unfolding ruled both join or_unfit
  two-ruled false q u v = sym (unfit-ruled (λ x y. or_unfit (g x y)) q v)
  two-ruled true false none v = refl
  two-ruled true false (some x) v = refl
  two-ruled true true none none = refl
  two-ruled true true none (some y) = refl
  two-ruled true true (some x) none = refl
  two-ruled true true (some x) (some y) = last (g x y)
    where
      last : (o : Option C) → ruled true o ≡ or_unfit o
      last none = refl
      last (some z) = refl

  two-named : (u : Option B₁) (v : Option B₂) → named (u >>= λ x. v >>= λ y. some (c' x y)) r e ≡ join (named u r₁ e₁) (named v r₂ e₂) (λ x y. or_unfit (g x y))
  unfolding named ◌>>=◌ join
  two-named none none = refl
  two-named none (some y) = sym (unnamed-ruled (λ x y. or_unfit (g x y)) (r₂ y) (e₂ y))
  two-named (some x) none = sym (ruled-unnamed (λ x y. or_unfit (g x y)) (r₁ x) (e₁ x))
  two-named (some x) (some y) = rw (hr x y, he x y) (two-ruled (r₁ x) (r₂ y) (e₁ x) (e₂ y))

  pub staged-two : (o₁ : Option A₁) (o₂ : Option A₂)
      → staged (o₁ >>= λ a. o₂ >>= λ b. some (c a b)) n r e ≡ join (staged o₁ n₁ r₁ e₁) (staged o₂ n₂ r₂ e₂) (λ x y. or_unfit (g x y))
  unfolding staged ◌>>=◌ join
  staged-two none o₂ = refl
  staged-two (some a) none = sym (join-wrong (λ x y. or_unfit (g x y)) (named (n₁ a) r₁ e₁))
  staged-two (some a) (some b) = rw (hn a b) (two-named (n₁ a) (n₂ b))

-- two parts that never fit together
module _ {A₁ A₂ A B₁ B₂ B C₁ C₂ C : Type 0}
    (n₁ : A₁ → Option B₁) (r₁ : B₁ → Bool) (e₁ : B₁ → Option C₁)
    (n₂ : A₂ → Option B₂) (r₂ : B₂ → Bool) (e₂ : B₂ → Option C₂)
    (n : A → Option B) (r : B → Bool) (e : B → Option C)
    (c : A₁ → A₂ → A) (c' : B₁ → B₂ → B)
    (hn : (a : A₁) (b : A₂) → n (c a b) ≡ (n₁ a >>= λ x. n₂ b >>= λ y. some (c' x y)))
    (he : (x : B₁) (y : B₂) → e (c' x y) ≡ none) where
  abbrev never : C₁ → C₂ → Staged C
  never x y = unfit

  never-ruled : (t p q : Bool) (u : Option C₁) (v : Option C₂) → ruled {A = C} t none ≡ join (ruled p u) (ruled q v) never
  unfolding ruled join
  never-ruled t false q u v = ruled-none t ∙ sym (unfit-ruled never q v)
    where
      ruled-none : (t : Bool) → ruled {A = C} t none ≡ unfit
      ruled-none true = refl
      ruled-none false = refl
  never-ruled false true false none v = refl
  never-ruled false true false (some x) v = refl
  never-ruled false true true none none = refl
  never-ruled false true true none (some y) = refl
  never-ruled false true true (some x) none = refl
  never-ruled false true true (some x) (some y) = refl
  never-ruled true true false none v = refl
  never-ruled true true false (some x) v = refl
  never-ruled true true true none none = refl
  never-ruled true true true none (some y) = refl
  never-ruled true true true (some x) none = refl
  never-ruled true true true (some x) (some y) = refl

  never-named : (u : Option B₁) (v : Option B₂) → named (u >>= λ x. v >>= λ y. some (c' x y)) r e ≡ join (named u r₁ e₁) (named v r₂ e₂) never
  unfolding named ◌>>=◌ join
  never-named none none = refl
  never-named none (some y) = sym (unnamed-ruled never (r₂ y) (e₂ y))
  never-named (some x) none = sym (ruled-unnamed never (r₁ x) (e₁ x))
  never-named (some x) (some y) = rw (he x y) (never-ruled (r (c' x y)) (r₁ x) (r₂ y) (e₁ x) (e₂ y))

  pub staged-never : (o₁ : Option A₁) (o₂ : Option A₂) → staged (o₁ >>= λ a. o₂ >>= λ b. some (c a b)) n r e ≡ join (staged o₁ n₁ r₁ e₁) (staged o₂ n₂ r₂ e₂) never
  unfolding staged ◌>>=◌ join
  staged-never none o₂ = refl
  staged-never (some a) none = sym (join-wrong never (named (n₁ a) r₁ e₁))
  staged-never (some a) (some b) = rw (hn a b) (never-named (n₁ a) (n₂ b))

-- ---- three parts: the first two are one part, a pair

abbrev pub pair : {A B : Type 0} → A → B → A × B
pair a b = (a, b)

module _ {A₁ A₂ A₃ A B₁ B₂ B₃ B C₁ C₂ C₃ C : Type 0}
    (n₁ : A₁ → Option B₁) (r₁ : B₁ → Bool) (e₁ : B₁ → Option C₁)
    (n₂ : A₂ → Option B₂) (r₂ : B₂ → Bool) (e₂ : B₂ → Option C₂)
    (n₃ : A₃ → Option B₃) (r₃ : B₃ → Bool) (e₃ : B₃ → Option C₃)
    (n : A → Option B) (r : B → Bool) (e : B → Option C)
    (c : A₁ → A₂ → A₃ → A) (c' : B₁ → B₂ → B₃ → B) (g : C₁ → C₂ → C₃ → Option C)
    (hn : (a : A₁) (b : A₂) (d : A₃) → n (c a b d) ≡ (n₁ a >>= λ x. n₂ b >>= λ y. n₃ d >>= λ z. some (c' x y z)))
    (hr : (x : B₁) (y : B₂) (z : B₃) → r (c' x y z) ≡ ((r₁ x && r₂ y) && r₃ z))
    (he : (x : B₁) (y : B₂) (z : B₃) → e (c' x y z) ≡ both (e₁ x) (e₂ y) (λ u v. e₃ z >>= λ w. g u v w)) where
  abbrev n₁₂ : A₁ × A₂ → Option (B₁ × B₂)
  n₁₂ p = n₁ p.0 >>= λ x. n₂ p.1 >>= λ y. some (pair x y)

  abbrev r₁₂ : B₁ × B₂ → Bool
  r₁₂ q = r₁ q.0 && r₂ q.1

  abbrev e₁₂ : B₁ × B₂ → Option (C₁ × C₂)
  e₁₂ q = both (e₁ q.0) (e₂ q.1) (λ u v. some (pair u v))

  parse : (o₁ : Option A₁) (o₂ : Option A₂) (o₃ : Option A₃)
      → (o₁ >>= λ a. o₂ >>= λ b. o₃ >>= λ d. some (c a b d)) ≡ ((o₁ >>= λ a. o₂ >>= λ b. some (pair a b)) >>= λ p. o₃ >>= λ d. some (c p.0 p.1 d))
  unfolding ◌>>=◌
  parse none o₂ o₃ = refl
  parse (some a) none o₃ = refl
  parse (some a) (some b) o₃ = refl

  names : (p : A₁ × A₂) (d : A₃) → n (c p.0 p.1 d) ≡ (n₁₂ p >>= λ q. n₃ d >>= λ z. some (c' q.0 q.1 z))
  unfolding ◌>>=◌
  names p d = hn p.0 p.1 d ∙ go (n₁ p.0) (n₂ p.1)
    where
      go : (u : Option B₁) (v : Option B₂)
          → (u >>= λ x. v >>= λ y. n₃ d >>= λ z. some (c' x y z)) ≡ ((u >>= λ x. v >>= λ y. some (pair x y)) >>= λ q. n₃ d >>= λ z. some (c' q.0 q.1 z))
      go none v = refl
      go (some x) none = refl
      go (some x) (some y) = refl

  kinds : (q : B₁ × B₂) (z : B₃) → e (c' q.0 q.1 z) ≡ both (e₁₂ q) (e₃ z) (λ w v. g w.0 w.1 v)
  unfolding both ◌>>=◌
  kinds q z = he q.0 q.1 z ∙ go (e₁ q.0) (e₂ q.1) (e₃ z)
    where
      go : (u : Option C₁) (v : Option C₂) (w : Option C₃)
          → both u v (λ x y. w >>= λ z. g x y z) ≡ both (both u v (λ x y. some (pair x y))) w (λ p z. g p.0 p.1 z)
      go none v w = refl
      go (some x) none w = refl
      go (some x) (some y) none = refl
      go (some x) (some y) (some z) = refl

  pub staged-three : (o₁ : Option A₁) (o₂ : Option A₂) (o₃ : Option A₃) → staged (o₁ >>= λ a. o₂ >>= λ b. o₃ >>= λ d. some (c a b d)) n r e
      ≡ join (join (staged o₁ n₁ r₁ e₁) (staged o₂ n₂ r₂ e₂) (λ x y. or_unfit (some (pair x y)))) (staged o₃ n₃ r₃ e₃) (λ p z. or_unfit (g p.0 p.1 z))
  staged-three o₁ o₂ o₃ =
      ap (λ (o : Option A). staged o n r e) (parse o₁ o₂ o₃)
      ∙ staged-two n₁₂ r₁₂ e₁₂ n₃ r₃ e₃ n r e (λ p d. c p.0 p.1 d) (λ q z. c' q.0 q.1 z) (λ w v. g w.0 w.1 v)
      names (λ q z. hr q.0 q.1 z) kinds (o₁ >>= λ a. o₂ >>= λ b. some (pair a b)) o₃
      ∙ ap (λ (s : Staged (C₁ × C₂)). join s (staged o₃ n₃ r₃ e₃) (λ p z. or_unfit (g p.0 p.1 z)))
      (staged-two n₁ r₁ e₁ n₂ r₂ e₂ n₁₂ r₁₂ e₁₂ (λ a b. pair a b) (λ x y. pair x y) (λ u v. some (pair u v)) (λ a b. refl) (λ x y. refl) (λ x y. refl) o₁ o₂)

-- ---- one part

pub one-ruled : {C₁ C : Type 0} (g : C₁ → Option C) (p : Bool) (u : Option C₁) → ruled p (u >>= g) ≡ on_fits (ruled p u) (λ x. or_unfit (g x))
unfolding ruled ◌>>=◌ on_fits or_unfit
one-ruled g false u = refl
one-ruled g true none = refl
one-ruled {C} g true (some x) = last (g x)
  where
    last : (o : Option C) → ruled true o ≡ or_unfit o
    last none = refl
    last (some z) = refl

module _ {A₁ A B₁ B C₁ C : Type 0}
    (n₁ : A₁ → Option B₁) (r₁ : B₁ → Bool) (e₁ : B₁ → Option C₁)
    (n : A → Option B) (r : B → Bool) (e : B → Option C)
    (c : A₁ → A) (c' : B₁ → B) (g : C₁ → Option C)
    (hn : (a : A₁) → n (c a) ≡ (n₁ a >>= λ x. some (c' x)))
    (hr : (x : B₁) → r (c' x) ≡ r₁ x)
    (he : (x : B₁) → e (c' x) ≡ (e₁ x >>= g)) where
  one-named : (u : Option B₁) → named (u >>= λ x. some (c' x)) r e ≡ on_fits (named u r₁ e₁) (λ x. or_unfit (g x))
  unfolding named ◌>>=◌ on_fits
  one-named none = refl
  one-named (some x) = rw (hr x, he x) (one-ruled g (r₁ x) (e₁ x))

  pub staged-one : (o₁ : Option A₁) → staged (o₁ >>= λ a. some (c a)) n r e ≡ on_fits (staged o₁ n₁ r₁ e₁) (λ x. or_unfit (g x))
  unfolding staged ◌>>=◌ on_fits
  staged-one none = refl
  staged-one (some a) = rw (hn a) (one-named (n₁ a))

-- ---- a part of which more is asked

module _ {A B C D : Type 0} (n : A → Option B) (r : B → Bool) (e : B → Option C) (g : C → Option D) where
  pub staged-then : (o : Option A) → staged o n r (λ x. e x >>= g) ≡ on_fits (staged o n r e) (λ x. or_unfit (g x))
  unfolding staged named on_fits
  staged-then none = refl
  staged-then (some a) = go (n a)
    where
      go : (u : Option B) → named u r (λ x. e x >>= g) ≡ on_fits (named u r e) (λ x. or_unfit (g x))
      go none = refl
      go (some b) = one-ruled g (r b) (e b)

-- ---- one more rule; a name that is not known

pub kept-ruled : {C : Type 0} (p t : Bool) (u : Option C) → ruled (p && t) u ≡ kept_if t (ruled p u)
unfolding ruled kept_if
kept-ruled false t u = refl
kept-ruled true true none = refl
kept-ruled true true (some c) = refl
kept-ruled true false none = refl
kept-ruled true false (some c) = refl

module _ {A₁ A B₁ B C : Type 0} (n₁ : A₁ → Option B₁) (r₁ : B₁ → Bool) (n : A → Option B) (r : B → Bool) (e : B → Option C)
    (c : A₁ → A) (c' : B₁ → B) (t : Bool)
    (hn : (a : A₁) → n (c a) ≡ (n₁ a >>= λ x. some (c' x)))
    (hr : (x : B₁) → r (c' x) ≡ (r₁ x && t)) where
  pub staged-kept : (o : Option A₁) → staged (o >>= λ a. some (c a)) n r e ≡ kept_if t (staged o n₁ r₁ (λ x. e (c' x)))
  unfolding staged named kept_if ◌>>=◌
  staged-kept none = refl
  staged-kept (some a) = rw (hn a) (go (n₁ a))
    where
      go : (u : Option B₁) → named (u >>= λ x. some (c' x)) r e ≡ kept_if t (named u r₁ (λ x. e (c' x)))
      go none = refl
      go (some x) = rw (hr x) (kept-ruled (r₁ x) t (e (c' x)))

-- a form that has a name of its own which is not known
module _ {A₁ A B₁ B C₁ C : Type 0} (n₁ : A₁ → Option B₁) (r₁ : B₁ → Bool) (e₁ : B₁ → Option C₁) (n : A → Option B) (r : B → Bool) (e : B → Option C)
    (c : A₁ → A) (hn : (a : A₁) → n (c a) ≡ none) where
  pub staged-unknown : (o : Option A₁) → staged (o >>= λ a. some (c a)) n r e ≡ unknown (staged o n₁ r₁ e₁)
  unfolding staged named ruled unknown ◌>>=◌
  staged-unknown none = refl
  staged-unknown (some a) = rw (hn a) (go (n₁ a))
    where
      of : (p : Bool) (v : Option C₁) → ◌≡◌ {A = Staged C} unnamed (unknown (ruled p v))
      of false v = refl
      of true none = refl
      of true (some x) = refl

      go : (u : Option B₁) → ◌≡◌ {A = Staged C} unnamed (unknown (named u r₁ e₁))
      go none = refl
      go (some b) = of (r₁ b) (e₁ b)

-- ---- two parts of which the second depends on the first one's kind

sel-wrong : {B C : Type 0} (g : Elaborated → B → Staged C) (s : Staged Elaborated) → selected s (λ k. wrong) g ≡ wrong
unfolding selected join on_fits
sel-wrong g wrong = refl
sel-wrong g unnamed = refl
sel-wrong g unfit = refl
sel-wrong g (fits x) = refl

module _ {A₁ A₂ A B₁ B₂ B C₂ C : Type 0}
    (n₁ : A₁ → Option B₁) (r₁ : B₁ → Bool) (e₁ : B₁ → Option Elaborated)
    (n₂ : A₂ → Option B₂) (r₂ : B₂ → Bool) (e₂ : ℕ → B₂ → Option C₂)
    (n : A → Option B) (r : B → Bool) (e : B → Option C)
    (c : A₁ → A₂ → A) (c' : B₁ → B₂ → B) (g : Elaborated → C₂ → Option C)
    (hn : (a : A₁) (b : A₂) → n (c a b) ≡ (n₁ a >>= λ x. n₂ b >>= λ y. some (c' x y)))
    (hr : (x : B₁) (y : B₂) → r (c' x y) ≡ (r₁ x && r₂ y))
    (he : (x : B₁) (y : B₂) → e (c' x y) ≡ (e₁ x >>= λ u. e₂ u.kind y >>= λ v. g u v)) where
  abbrev G : Elaborated → C₂ → Staged C
  G u v = or_unfit (g u v)

  sel-ruled : (p q : Bool) (u : Option Elaborated) (y : B₂) → ruled (p && q) (u >>= λ w. e₂ w.kind y >>= λ v. g w v) ≡ selected (ruled p u) (λ k. ruled q (e₂ k y)) G
  unfolding selected ruled ◌>>=◌
  sel-ruled false q u y = sym (unfit-ruled G q (e₂ 0 y))
  sel-ruled true false none y = sym (unfit-ruled G false (e₂ 0 y))
  sel-ruled true true none y = sym (unfit-ruled G true (e₂ 0 y))
  sel-ruled true q (some w) y = one-ruled (g w) q (e₂ w.kind y)

  sel-unnamed : (p : Bool) (u : Option Elaborated) → unnamed ≡ selected (ruled p u) (λ k. unnamed) G
  unfolding selected ruled join on_fits
  sel-unnamed false u = refl
  sel-unnamed true none = refl
  sel-unnamed true (some w) = refl

  sel-named : (u : Option B₁) (v : Option B₂) → named (u >>= λ x. v >>= λ y. some (c' x y)) r e ≡ selected (named u r₁ e₁) (λ k. named v r₂ (e₂ k)) G
  unfolding named selected join ◌>>=◌
  sel-named none none = refl
  sel-named none (some y) = sym (unnamed-ruled G (r₂ y) (e₂ 0 y))
  sel-named (some x) none = sel-unnamed (r₁ x) (e₁ x)
  sel-named (some x) (some y) = rw (hr x y, he x y) (sel-ruled (r₁ x) (r₂ y) (e₁ x) y)

  pub staged-selected : (o₁ : Option A₁) (o₂ : Option A₂)
      → staged (o₁ >>= λ a. o₂ >>= λ b. some (c a b)) n r e ≡ selected (staged o₁ n₁ r₁ e₁) (λ k. staged o₂ n₂ r₂ (e₂ k)) G
  unfolding staged selected ◌>>=◌
  staged-selected none o₂ = refl
  staged-selected (some a) none = sym (sel-wrong G (named (n₁ a) r₁ e₁))
  staged-selected (some a) (some b) = rw (hn a b) (sel-named (n₁ a) (n₂ b))
