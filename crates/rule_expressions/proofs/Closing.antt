-- The last part of a form and the bracket after it; how a walk moves over the parts of a form.
use mathlib.Core.Path.{◌≡◌, refl, sym, ap, ◌∙◌}
use mathlib.Core.Bool.{Bool, true, false, cond, true≢false, false≢true}
use mathlib.Core.List.{List}
use mathlib.Core.Option.{Option, none, some}
use Prim.Native.Nat.{ℕ, ◌≤◌}
use native.Mathlib.Omega.{arith}
use Rattle.law.specs.Base.{◌>>=◌}
use Rattle.code.specs.Layout.{Out, lay}
use Rattle.rule_stages.specs.Stages.{Staged, wrong, unnamed, unfit, fits, ruled, named, staged}
use Rattle.law.specs.Trees.{Tree, Trees, end, ◌then◌, Run, first, later}
use Rattle.law_theorems.specs.Readings.{stack_at}
use Rattle.code.proofs.LayoutRegions.{lay-g}
use Rattle.code.specs.LayoutRegions.{Same}
use Rattle.text_heads.specs.Parts.{rest, closed}
use Rattle.rule_faults.specs.declared.Fault.{Fault}
use Rattle.rule_faults.specs.declared.Fault.TheVariants.{Clear, Kind, Name, Form}
use Rattle.rule_faults.specs.declared.Got.{Got}
use Rattle.rule_faults.specs.Got.{lowest, is_form, fault_of, failed_got, past_bracket, Told}
use Rattle.text_parts.specs.Parts.{Before}
use Rattle.rule_expr_nodes.specs.Bracket.{Closes, shut, more}
use Rattle.rule_expr_nodes.specs.Nodes.{Made, Makes, failed_made, node_made, if_clear}
use Rattle.rule_expressions.specs.Walks.{Moves, Leaves}
use Rattle.rule_expressions.proofs.Joining.{told-wrong}

-- ---- row 6 by stages: there is no form

pub staged-none : {A B C : Type 0} (n : A → Option B) (r : B → Bool) (k : B → Option C) → staged none n r k ≡ wrong
unfolding staged
staged-none n r k = refl

pub wrong-none : {A B C : Type 0} (n : A → Option B) (r : B → Bool) (k : B → Option C) (o : Option A) → staged o n r k ≡ wrong → o ≡ none
unfolding staged named ruled
wrong-none n r k none h = refl
wrong-none {B = B} {C = C} n r k (some a) h = absurd (known (n a) h)
  where
    fitting : (b : Bool) (o : Option C) → ruled b o ≡ wrong → ⊥
    fitting false o e = let z : ◌≡◌ {A = ℕ} 0 1 = cc in omega arith
    fitting true none e = let z : ◌≡◌ {A = ℕ} 0 1 = cc in omega arith
    fitting true (some c) e = let z : ◌≡◌ {A = ℕ} 0 1 = cc in omega arith

    known : (u : Option B) → named u r k ≡ wrong → ⊥
    known none e = let z : ◌≡◌ {A = ℕ} 0 1 = cc in omega arith
    known (some b) e = fitting (r b) (k b) e

-- ---- faults of row 6

pub form-true : (f : Fault) → is_form f ≡ true → f ≡ Form
form-true Clear h = absurd (false≢true h)
form-true Kind h = absurd (false≢true h)
form-true Name h = absurd (false≢true h)
form-true Form h = refl

pub wrong-true : {A : Type 0} (S : Staged A) → is_form (fault_of S) ≡ true → S ≡ wrong
wrong-true wrong h = refl
wrong-true unnamed h = absurd (false≢true h)
wrong-true unfit h = absurd (false≢true h)
wrong-true (fits a) h = absurd (false≢true h)

pub right-lowest : (f h : Fault) → is_form (lowest f h) ≡ false → is_form h ≡ false
right-lowest Clear h e = e
right-lowest Kind Clear e = refl
right-lowest Kind Kind e = refl
right-lowest Kind Name e = refl
right-lowest Kind Form e = e
right-lowest Name Clear e = refl
right-lowest Name Kind e = refl
right-lowest Name Name e = refl
right-lowest Name Form e = e
right-lowest Form h e = absurd (true≢false e)

pub clear-form : (f : Fault) (k q t : ℕ) (l : List ℕ) (M : Made) → is_form (if_clear f k q t l M).got.fault ≡ false → is_form f ≡ false
unfolding if_clear
clear-form Clear k q t l M h = refl
clear-form Kind k q t l M h = refl
clear-form Name k q t l M h = refl
clear-form Form k q t l M h = h

-- ---- a bracket after the last part

bind-id : {A : Type 0} (o : Option A) → (o >>= λ y. closed end y) ≡ o
unfolding ◌>>=◌ closed
bind-id none = refl
bind-id (some a) = refl

bind-open : {A : Type 0} (us : Trees Run) → (us ≡ end → ⊥) → (o : Option A) → (o >>= λ y. closed us y) ≡ none
unfolding ◌>>=◌ closed
bind-open end h o = absurd (h refl)
bind-open (t then ts) h none = refl
bind-open (t then ts) h (some a) = refl

none-bind : {A : Type 0} (us : Trees Run) → (◌>>=◌ {A = A} none λ y. closed us y) ≡ none
unfolding ◌>>=◌
none-bind us = refl

-- by any stages F
pub closed-told : {A C : Type 0} (F : Option A → Staged C) → F none ≡ wrong → ((o : Option A) → F o ≡ wrong → o ≡ none)
    → {K : C → ℕ} {L : C → ℕ → List ℕ → Out} {s : List ℕ} {top : ℕ} {l : List ℕ} {b x : Got} {l' : List ℕ} (us : Trees Run) → Closes s b x
    → (is_form b.fault ≡ false → us ≡ first (stack_at s b.next)) → (o : Option A) → Told (F o) K L top l b l' → Told (F (o >>= λ y. closed us y)) K L top l x l'
closed-told {A} F fn fw {K} {L} {s} {top} {l} {b} {l' = l'} us (shut q h) p o T = go (is_form b.fault) refl
  where
    go : (t : Bool) → is_form b.fault ≡ t → Told (F (o >>= λ y. closed us y)) K L top l (past_bracket b q) l'
    go true e =
        let z : o ≡ none = fw o (wrong-true (F o) (ap is_form (sym T.fault-is) ∙ e)) in
        rw (z, none-bind {A = A} us, fn) (told-wrong (form-true b.fault e))
    go false e = rw (p e ∙ h.here, bind-id o) (record { fault-is = T.fault-is; laid = T.laid })
closed-told {A} F fn fw {K} {L} {s} {top} {l} {b} {l' = l'} us (more n) p o T = go (is_form b.fault) refl
  where
    go : (t : Bool) → is_form b.fault ≡ t → Told (F (o >>= λ y. closed us y)) K L top l (failed_got Form 0 b.next b.top) l'
    go true e =
        let z : o ≡ none = fw o (wrong-true (F o) (ap is_form (sym T.fault-is) ∙ e)) in
        rw (z, none-bind {A = A} us, fn) (told-wrong refl)
    go false e = rw (bind-open us (λ f. n (sym (p e) ∙ f)) o, fn) (told-wrong refl)

pub closes-top : {s : List ℕ} {b x : Got} → Closes s b x → x.top ≡ b.top
closes-top (shut q h) = refl
closes-top (more n) = refl

-- past the bracket, where the walk goes on
pub closes-next : {s : List ℕ} {b x : Got} → Closes s b x → is_form x.fault ≡ false → (is_form b.fault ≡ false) × (later (stack_at s b.next) ≡ stack_at s x.next)
closes-next (shut q h) e = (e, h.around)
closes-next (more n) e = absurd (true≢false e)

-- two parts, of which a closed form is made
pub closed-two : {A B C : Type 0} (f : A → B → C) (o : Option A) (p : Option B) (us : Trees Run)
    → (o >>= λ a. p >>= λ b. closed us (f a b)) ≡ (o >>= λ a. (p >>= λ b. closed us b) >>= λ b. some (f a b))
unfolding ◌>>=◌ closed
closed-two f none p us = refl
closed-two f (some a) none us = refl
closed-two f (some a) (some b) end = refl
closed-two f (some a) (some b) (t then ts) = refl

pub closed-one : {A C : Type 0} (f : A → C) (o : Option A) (us : Trees Run) → (o >>= λ a. closed us (f a)) ≡ ((o >>= λ a. closed us a) >>= λ a. some (f a))
unfolding ◌>>=◌ closed
closed-one f none us = refl
closed-one f (some a) end = refl
closed-one f (some a) (t then ts) = refl

-- ---- where a made answer goes on, and what it leaves of the list

pub record Stays (m : Made) (q t : ℕ) (l : List ℕ) : Type 0 where
  pub next-is : m.got.next ≡ q
  pub up : t ≤ m.got.top
  pub below : Same 0 t m.list l

pub stays-failed : (f : Fault) (k q t : ℕ) (l : List ℕ) → Stays (failed_made f k q t l) q t l
stays-failed f k q t l = record { next-is = refl; up = omega arith; below = record { at = λ i a b. refl } }

pub stays-node : (k q t : ℕ) (ns l : List ℕ) → Stays (node_made k q (lay ns t l)) q t l
stays-node k q t ns l = let G = lay-g ns t l in record { next-is = refl; up = G.up; below = record { at = λ i a b. G.below i b } }

pub stays-clear : (f : Fault) (k q t : ℕ) (l : List ℕ) (M : Made) → Stays M q t l → Stays (if_clear f k q t l M) q t l
unfolding if_clear
stays-clear Clear k q t l M h = h
stays-clear Kind k q t l M h = stays-failed Kind k q t l
stays-clear Name k q t l M h = stays-failed Name k q t l
stays-clear Form k q t l M h = stays-failed Form k q t l

pub stays-cond : (b : Bool) {M N : Made} {q t : ℕ} {l : List ℕ} → Stays M q t l → Stays N q t l → Stays (cond b M N) q t l
stays-cond true h k = h
stays-cond false h k = k

pub same_refl : (t : ℕ) (l : List ℕ) → Same 0 t l l
same_refl t l = record { at = λ i a b. refl }

pub same-trans : {t u : ℕ} {a b c : List ℕ} → Same 0 u a b → Same 0 t b c → t ≤ u → Same 0 t a c
same-trans h k e = record { at = λ i x y. h.at i x (omega arith) ∙ k.at i x y }

-- ---- the parts of a form

pub rest-is : {s : List ℕ} {at q : ℕ} {t : Tree Run} → Before s at t q → rest (first (stack_at s at)) ≡ first (stack_at s q)
rest-is h = ap rest h.here

-- the first of two parts is faulty: so is the form
pub left-wrong : {s : List ℕ} {at top : ℕ} {l : List ℕ} {a : Got} {l' : List ℕ} → Moves s at top l a l' → is_form a.fault ≡ true → Leaves s at top l a l'
left-wrong m h = record { goes = λ e. absurd (true≢false (sym h ∙ e)); keeps = m.keeps; grows = m.grows }

-- one part and the bracket
pub leaves-one : {s : List ℕ} {at top : ℕ} {l l₁ : List ℕ} {a x : Got} {M : Made} {r : Got} {l' : List ℕ} → Moves s at top l a l₁ → Closes s a x
    → Stays M x.next x.top l₁ → (is_form M.got.fault ≡ false → is_form x.fault ≡ false) → Makes M r l' → Leaves s at top l r l'
leaves-one {s} {at} {top} {l} {l₁} {a} {x} {M} m c st f mk =
    let u : top ≤ x.top = rw (closes-top c) m.grows in
    rw (mk.given, mk.left) (record {
      goes = λ e. let n = closes-next c (f e) in (m.goes n.0).1.around ∙ n.1 ∙ ap (stack_at s) (sym st.next-is);
      keeps = same-trans st.below m.keeps u;
      grows = omega (arith, st.up);
    })

-- two parts and the bracket
pub leaves-two : {s : List ℕ} {at top : ℕ} {l l₁ l₂ : List ℕ} {a b x : Got} {M : Made} {r : Got} {l' : List ℕ} → Moves s at top l a l₁ → is_form a.fault ≡ false
    → Moves s a.next a.top l₁ b l₂ → Closes s b x → Stays M x.next x.top l₂ → (is_form M.got.fault ≡ false → is_form x.fault ≡ false) → Makes M r l' → Leaves s at top l r l'
leaves-two {s} {at} {top} {l} {l₁} {l₂} {a} {b} {x} m h n c st f mk =
    let u : a.top ≤ x.top = rw (closes-top c) n.grows in
    let g = m.grows in
    rw (mk.given, mk.left) (record {
      goes = λ e. let z = closes-next c (f e) in (m.goes h).1.around ∙ (n.goes z.0).1.around ∙ z.1 ∙ ap (stack_at s) (sym st.next-is);
      keeps = same-trans (same-trans st.below n.keeps u) m.keeps g;
      grows = omega (arith, st.up);
    })
