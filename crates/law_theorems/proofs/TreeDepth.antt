-- How deep a tree's brackets are, for the trees and for the parts that shapes take of them (rows 4 to 6).
use mathlib.Core.Path.{◌≡◌}
use mathlib.Core.List.{List, [], ◌∷◌}
use mathlib.Core.Option.{some}
use Prim.Native.Nat.{ℕ, suc}
use Rattle.law.specs.Base.{Name}
use Rattle.law.specs.Forms.{Item, first?, headed, one, two}
use Rattle.law_theorems.specs.FormsByDepth.{ending, handler_of}
use Rattle.law.specs.Trees as T
use Rattle.law.specs.Trees.{Run, Tree, Trees, list}
use Rattle.law.specs.Words.{Word, worded, worded_all}
use Rattle.law_theorems.proofs.Inversion.{none-some, some_inj, bind-some, given-some}

-- at most d brackets deep
mutual
  pub data Shallow {W : Type 0} : ℕ → Tree W → Type 0 where
    word : {d : ℕ} {w : W} → Shallow d (T.word w)
    form : {d : ℕ} {ts : Trees W} → ShallowAll d ts → Shallow (suc d) (T.form ts)

  pub data ShallowAll {W : Type 0} : ℕ → Trees W → Type 0 where
    end : {d : ℕ} → ShallowAll d T.end
    ◌then◌ : {d : ℕ} {t : Tree W} {ts : Trees W} → Shallow d t → ShallowAll d ts → ShallowAll d (T.◌then◌ t ts)

infixr 40 ◌then◌
pub data Shallows (d : ℕ) : List Item → Type 0 where
  none : Shallows d []
  more : {t : Item} {ts : List Item} → Shallow d t → Shallows d ts → Shallows d (t ∷ ts)

module _ {d : ℕ} {t : Item} {ts : List Item} where
  pub first : Shallows d (t ∷ ts) → Shallow d t
  first (more s ss) = s

  pub rest : Shallows d (t ∷ ts) → Shallows d ts
  rest (more s ss) = ss

mutual
  pub deeper : {W : Type 0} {d : ℕ} {t : Tree W} → Shallow d t → Shallow (suc d) t
  deeper word = word
  deeper (form ts) = form (all-deeper ts)

  all-deeper : {W : Type 0} {d : ℕ} {ts : Trees W} → ShallowAll d ts → ShallowAll (suc d) ts
  all-deeper end = end
  all-deeper (t then ts) = deeper t then all-deeper ts

-- ---- row 5 keeps the brackets

mutual
  unfolding worded

  pub worded-shallow : {d : ℕ} {t : Tree Run} → Shallow d t → (v : Item) → worded t ≡ some v → Shallow d v
  worded-shallow word v h = bind-some h λ w _ e. rw (← some_inj e) word
  worded-shallow (form ts) v h = bind-some h λ vs hvs e. rw (← some_inj e) (form (worded-all-shallow ts vs hvs))

  worded-all-shallow : {d : ℕ} {ts : Trees Run} → ShallowAll d ts → (vs : Trees Word) → worded_all ts ≡ some vs → ShallowAll d vs
  worded-all-shallow end vs h = rw (← some_inj h) end
  worded-all-shallow (t then ts) vs h = bind-some h λ v hv h. bind-some h λ us hus e. rw (← some_inj e) (worded-shallow t v hv then worded-all-shallow ts us hus)

-- ---- shapes

module _ {d : ℕ} where
  pub listed-shallow : {ts : Trees Word} → ShallowAll d ts → Shallows d (list ts)
  unfolding list
  listed-shallow end = none
  listed-shallow (t then ts) = more t (listed-shallow ts)

  pub first-shallow : {ts : List Item} → Shallows d ts → {p : Name × List Item} → first? ts ≡ some p → Shallows d p.1
  unfolding first?
  first-shallow none h = none-some h
  first-shallow (more t ts) h = bind-some h λ w _ e. rw (← some_inj e) ts

  pub one-shallow : {ts : List Item} → Shallows d ts → {t : Item} → one ts ≡ some t → Shallow d t
  unfolding one
  one-shallow none h = none-some h
  one-shallow (more t none) h = rw (← some_inj h) t
  one-shallow (more t (more u ts)) h = none-some h

  pub two-shallow : {ts : List Item} → Shallows d ts → {p : Item × Item} → two ts ≡ some p → Shallow d p.0 × Shallow d p.1
  unfolding two
  two-shallow none h = none-some h
  two-shallow (more t ts) h = bind-some h λ u hu e. rw (← some_inj e) (t, one-shallow ts hu)

  -- the last
  pub ending-shallow : {ts : List Item} → Shallows d ts → {p : List Item × Item} → ending ts ≡ some p → Shallow d p.1
  unfolding ending
  ending-shallow none h = none-some h
  ending-shallow (more t none) h = rw (← some_inj h) t
  ending-shallow (more t (more u ts)) h = bind-some h λ q hq e. rw (← some_inj e) (ending-shallow (more u ts) hq)

  -- a form's parts after its head: here the form's own bracket is given away
  pub headed-shallow : {t : Item} → Shallow (suc d) t → {p : Name × List Item} → headed t ≡ some p → Shallows (suc d) p.1
  unfolding headed
  headed-shallow word h = none-some h
  headed-shallow (form ts) h = wider (first-shallow (listed-shallow ts) h)
    where
      wider : {ts : List Item} → Shallows d ts → Shallows (suc d) ts
      wider none = none
      wider (more t ts) = more (deeper t) (wider ts)

  pub handler-shallow : {t : Item} → Shallow (suc d) t → {hs : List Item} → handler_of t ≡ some hs → Shallows (suc d) hs
  unfolding handler_of
  handler-shallow s h = bind-some h λ p hp g. given-some g λ _ e. rw (← e) (headed-shallow s hp)
