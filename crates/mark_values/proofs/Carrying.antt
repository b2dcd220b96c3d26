-- Words that are values, and words that are faults or no result; what is carried by either.
use mathlib.Core.Path.{◌≡◌, refl, sym, ap, subst, ◌∙◌}
use mathlib.Core.Bool.{true, false, true≢false}
use mathlib.Core.List.{[], ◌∷◌}
use Prim.Native.Nat.{ℕ, min}
use native.Mathlib.Omega.{arith}
use borrow.Author.Tests.{eq-eqb, ne_eqb}
use borrow.Author.Rules.{sfits_of}
use lib.IntN.{ℤ, pos}
use lib.Signed.{lt_z}
use mir.Syntax.{w64}
use mir.Val.{SFits}
use mir.Facts.{to_z-of_z}
use Rattle.leaf_integers.proofs.Machine.{wire}
use Rattle.law.specs.Calculate.{Result, is, fails, stuck, ◌>>=◌}
use Rattle.law.specs.Machine.{Store, read_cells, sole, one_cell}
use Rattle.law.specs.Marking.{TypedValue, TypedPlace, typed_value, typed_as, wanted}
use Rattle.law.specs.Types.{Types, size_of}
use Rattle.code_calc.specs.Words.{no_result, greatest, word_of, InRange, Ranged, Means}
use Rattle.code_calc.proofs.Ranging.{range-value, above-fault}
use Rattle.mark_values.specs.declared.values.Carried.{Carried}
use Rattle.mark_values.specs.Values.{carried_of, reached_of, MarkRanged, MarkMeans, simple?, Carries, Reaches}
use Rattle.mark_values.specs.Steps.{Wants}
use Rattle.mark_values.specs.Carrying.{Broken, by-fault, by-stuck}

-- ---- results

pub is-inj : {A : Type 0} {a b : A} → is a ≡ is b → a ≡ b
is-inj {A} {a} {b} h = cc

fails-is : {A : Type 0} {e : ℤ} {a : A} → fails e ≡ is a → ⊥
fails-is {A} h = let z : ◌≡◌ {A = ℕ} 0 1 = cc in omega arith

stuck-is : {A : Type 0} {a : A} → stuck ≡ is a → ⊥
stuck-is {A} h = let z : ◌≡◌ {A = ℕ} 0 1 = cc in omega arith

-- what follows is not done
pub broken-bind : {A B : Type 0} {w : ℤ} {v : Result A} (f : A → Result B) → Broken w v → Broken w (v >>= f)
broken-bind f (by-fault e h r) = by-fault e h r
broken-bind f (by-stuck h) = by-stuck h

pub broken-means : {w : ℤ} {v : Result ℤ} → Broken w v → MarkMeans w v
unfolding word_of MarkRanged
broken-means (by-fault e h r) = record { word = h; ranged = r }
broken-means (by-stuck h) = record { word = h; ranged = tt }

broken-not : {A : Type 0} {w : ℤ} {v : Result A} {a : A} → Broken w v → v ≡ is a → ⊥
broken-not (by-fault e h r) q = fails-is q
broken-not (by-stuck h) q = stuck-is q

pub carries-broken : (Γ : Types) (m : Store) (k a : ℕ) {w : ℤ} {v : Result TypedValue} → Broken w v → Carries Γ m v (carried_of k w a)
carries-broken Γ m k a b = record {
  word-is = broken-means (broken-bind (λ x. is (sole x.cells)) b);
  kind-is = λ x q. absurd (broken-not b q);
  single = λ x q h. absurd (broken-not b q);
  whole = λ x q h. absurd (broken-not b q);
}

pub reaches-broken : (t : ℕ) {w : ℤ} {v : Result TypedPlace} → Broken w v → Reaches v (reached_of t w)
reaches-broken t b = record { word-is = broken-means (broken-bind (λ x. is (pos (min x.addr 4294967295))) b); type-is = λ x q. absurd (broken-not b q) }

-- ---- a word above every value is that of no value, and any other is a value's

pub view-broken : {A : Type 0} (w : ℤ) (v : Result A) (f : A → ℤ) → MarkMeans w (v >>= λ a. is (f a)) → lt_z greatest w ≡ true → Broken w v
unfolding word_of MarkRanged
view-broken w (is a) f h g = absurd (true≢false (sym g ∙ ap (lt_z greatest) h.word ∙ range-value (f a) h.ranged))
view-broken w (fails e) f h g = by-fault e h.word h.ranged
view-broken w stuck f h g = by-stuck h.word

pub view-value : {A P : Type 0} (w : ℤ) (v : Result A) (f : A → ℤ) → MarkMeans w (v >>= λ a. is (f a)) → lt_z greatest w ≡ false
    → ((a : A) → v ≡ is a → w ≡ f a → InRange (f a) → P) → P
unfolding word_of MarkRanged Ranged
view-value w (is a) f h g k = k a refl h.word h.ranged
view-value w (fails e) f h g k = absurd (true≢false (above-fault e h.ranged ∙ sym (ap (lt_z greatest) h.word) ∙ g))
view-value w stuck f h g k = absurd (true≢false (sym (ap (lt_z greatest) h.word) ∙ g))

-- ---- values

pub means-value : (z : ℤ) → InRange z → MarkMeans z (is z)
unfolding word_of MarkRanged
means-value z h = record { word = refl; ranged = h }

pub means-stuck : MarkMeans no_result stuck
unfolding word_of MarkRanged
means-stuck = record { word = refl; ranged = tt }

pub means-marks : (r : ℤ) (v : Result ℤ) → Means r v → MarkMeans r v
unfolding Ranged MarkRanged
means-marks r (is z) h = record { word = h.word; ranged = h.ranged }
means-marks r (fails e) h = record { word = h.word; ranged = h.ranged }
means-marks r stuck h = absurd h.ranged

module _ (Γ : Types) (m : Store) where
  pub carries-value : (x : TypedValue) (w : ℤ) (a : ℕ) → MarkMeans w (is (sole x.cells))
      → (simple? Γ x.kind ≡ true → x.cells ≡ (sole x.cells ∷ []))
      → (simple? Γ x.kind ≡ false → read_cells a (size_of Γ x.kind) m ≡ is x.cells) → Carries Γ m (is x) (carried_of x.kind w a)
  carries-value x w a h s n = record {
    word-is = h;
    kind-is = λ y q. ap (λ (t : TypedValue). t.kind) (is-inj q);
    single = λ y q. subst (λ (t : TypedValue). simple? Γ t.kind ≡ true → t.cells ≡ (sole t.cells ∷ [])) (is-inj q) s;
    whole = λ y q. subst (λ (t : TypedValue). simple? Γ t.kind ≡ false → read_cells a (size_of Γ t.kind) m ≡ is t.cells) (is-inj q) n;
  }

  -- one cell of a kind
  pub carries-cell : (k : ℕ) (z : ℤ) (a : ℕ) → simple? Γ k ≡ true → InRange z → Carries Γ m (is (typed_value k (z ∷ []))) (carried_of k z a)
  carries-cell k z a s h = carries-value (typed_value k (z ∷ [])) z a (means-value z h) (λ _. refl) (λ n. absurd (true≢false (sym s ∙ n)))

  pub carries-one : (k : ℕ) (w : ℤ) (u : Result ℤ) → simple? Γ k ≡ true → MarkMeans w u → Carries Γ m (typed_as k (one_cell u)) (carried_of k w 0)
  unfolding word_of MarkRanged
  carries-one k w (is z) s h = rw h.word (carries-cell k z 0 s h.ranged)
  carries-one k w (fails e) s h = carries-broken Γ m k 0 (by-fault e h.word h.ranged)
  carries-one k w stuck s h = carries-broken Γ m k 0 (by-stuck h.word)

  pub carries-stuck : Carries Γ m stuck (carried_of 0 no_result 0)
  carries-stuck = carries-broken Γ m 0 0 (by-stuck refl)

pub reaches-stuck : Reaches stuck (reached_of 0 no_result)
reaches-stuck = reaches-broken 0 (by-stuck refl)

-- what is carried is no value, or is one of the kind that it says
module _ {Γ : Types} {m : Store} {v : Result TypedValue} {x : Carried} (c : Carries Γ m v x) where
  pub carried-broken : lt_z greatest x.word ≡ true → Broken x.word v
  carried-broken h = view-broken x.word v (λ a. sole a.cells) c.word-is h

  pub carried-value : {P : Type 0} → lt_z greatest x.word ≡ false → ((a : TypedValue) → v ≡ is a → x.word ≡ sole a.cells → InRange (sole a.cells) → x.kind ≡ a.kind → P) → P
  carried-value h k = view-value x.word v (λ a. sole a.cells) c.word-is h (λ a e f i. k a e f i (c.kind-is a e))

-- ---- `wanted`

module _ (k : ℕ) (x : Carried) (f : SFits w64 x.word) where
  pub wants-fault : lt_z greatest (wire x.word) ≡ true → Wants k x (wire x.word)
  wants-fault h = rw (to_z-of_z f) (record { says = λ Γ m v c. broken-means (broken-bind (λ u. is (sole u)) (broken-bind (wanted k) (carried-broken c (rw (to_z-of_z f) at h)))) })

  pub wants-value : lt_z greatest (wire x.word) ≡ false → k ≡ x.kind → Wants k x (wire x.word)
  wants-value h e = rw (to_z-of_z f) (record { says = λ Γ m v c. carried-value c (rw (to_z-of_z f) at h) (λ a q w i n. rw (q, eq-eqb k a.kind (e ∙ n), w) (means-value (sole a.cells) i)) })

  pub wants-other : lt_z greatest (wire x.word) ≡ false → ((k ≡ x.kind) → ⊥) → Wants k x no_result
  wants-other h e = record { says = λ Γ m v c. carried-value c (rw (to_z-of_z f) at h) (λ a q w i n. rw (q, ne_eqb k a.kind (λ j. e (j ∙ sym n))) means-stuck) }

pub ruleset wanted_laws = (wants-fault, wants-value, wants-other, sfits_of)
