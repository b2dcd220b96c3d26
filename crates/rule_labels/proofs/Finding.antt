-- Whether a label comes twice: the loops over values, and what they tell of the arms that are read.
use mathlib.Core.Path.{◌≡◌, refl, sym, ap, ◌∙◌}
use mathlib.Core.Bool.{Bool, true, false, cond, not, ◌&&◌, ◌||◌, true≢false}
use mathlib.Core.List.{List, [], ◌∷◌, ◌++◌, append-nil}
use mathlib.Core.Option.{Option, none, some}
use Prim.Native.Nat.{ℕ, suc, ◌+◌, ◌-◌, ◌<◌, ◌≤◌}
use native.Mathlib.Omega.{arith}
use lib.Dec.{eqb}
use lib.IntN.{ℤ, pos}
use lib.ListN.{length, get_or, set, take, drop, length-set, length-drop, drop_of_length-le}
use lib.Seq.{drop-cons, take_all, take-suc-set, append_snoc, length-take-le}
use mir.Val.{SFits, of_z}
use mir.Facts.{to_z-of_z}
use borrow.Author.Rules.{sfits_of}
use mir.Syntax.{w64}
use Rattle.leaf_integers.proofs.Machine.{wire}
use Rattle.law.specs.Base.{each}
use Rattle.law.specs.Code.{Cases}
use Rattle.law.specs.Elaborate.{elab_arms}
use Rattle.law.specs.Environment.{Environment}
use Rattle.law.specs.Names.{constant_of, arms_of}
use Rattle.law.specs.Rules.{plain, all_plain, differ, labels_of, kept_stmt, kept_arms}
use Rattle.law.specs.Script as Script
use Rattle.law.specs.Script.{Const, arm, else_arm, no_else}
use Rattle.rule_stages.specs.Stages.{fits, ruled, named, staged, arms_staged}
use Rattle.law.specs.Syntax.{Constant, Arms}
use Rattle.law.specs.Trees.{first}
use Rattle.law_theorems.specs.Readings.{stack_at}
use Rattle.law_theorems.proofs.Inversion.{some_inj, bind-some, and-true, and-both}
use Rattle.text_words.specs.Passes.{nodes_all}
use Rattle.text_heads.specs.Parts.{arms_in}
use Rattle.table_scope.specs.declared.Scope.{Scope}
use Rattle.rule_faults.specs.declared.Fault.{Fault}
use Rattle.rule_faults.specs.declared.Fault.TheVariants.{Clear, Kind}
use Rattle.rule_faults.specs.Got.{is_clear, lowest}
use Rattle.rule_atoms.proofs.Telling.{unnamed-fits, unfit-fits}
use Rattle.rule_labels.specs.Repeating.{labels_differ, Repeating}
use Rattle.rule_labels.specs.declared.Mark.{Mark}
use Rattle.rule_labels.specs.declared.Filled.{Filled}
use Rattle.std.specs.Prelude.{Some, None, Option as Maybe}
use Rattle.rule_labels.specs.declared.By.{By}
use Rattle.rule_labels.specs.declared.By.TheVariants as by
use Rattle.rule_labels.specs.Hops.{MarkIs, left_at, EntersArm, Nexts}
use Rattle.rule_labels.specs.Blocks.{value_at, among, apart, meets, Held}
use Rattle.rule_labels.specs.Keys.{key_at}
use Rattle.rule_labels.specs.Numbers.{number_by, number_at, numbers_of, Numbers, NextNumbers, Fills, ComesAgain, Recurs, DiffersFrom, DiffersBy}
use Rattle.rule_labels.specs.Differ.{Differs}
use Rattle.rule_labels.proofs.KeyTelling.{key-told}
use Rattle.rule_labels.proofs.Keying.{differ-apart as keys-differ}
use Rattle.rule_labels.proofs.Marking.{marks-arms, labels-known}
use Rattle.rule_labels.proofs.Telling.{number-eqb, value-told}
use Rattle.rule_labels.proofs.Differing.{or_assoc, apart-append, all_of, differ-apart, arms-kind}

-- ---- the integers of a block

drop-next : (b : List ℤ) (i : ℕ) → i < length b → drop i b ≡ (get_or b i (pos 0) ∷ drop (i + 1) b)
drop-next b i h = let e : suc i ≡ i + 1 = omega arith in drop-cons b i (pos 0) h ∙ ap (λ (j : ℕ). get_or b i (pos 0) ∷ drop j b) e

-- whether z is among those before the i-th
pub record Holding (b : List ℤ) (z : ℤ) (any : Bool) (i : ℕ) : Type 0 where
  pub left : among z b ≡ (any || among z (drop i b))

pub hold-start : (b : List ℤ) (z : ℤ) → Holding b z false 0
hold-start b z = record { left = refl }

or-none : (a : Bool) → (a || false) ≡ a
or-none true = refl
or-none false = refl

module _ (b : List ℤ) (z : ℤ) (any : Bool) (i : ℕ) (p : SFits w64 z) (I : Holding b (wire z) any i) where
  whole : among z b ≡ (any || among z (drop i b))
  whole = let j = to_z-of_z p in let k = I.left in rw j at k

  pub hold-end : length b ≤ i → any ≡ among z b
  unfolding among
  hold-end h = sym (whole ∙ ap (λ (zs : List ℤ). any || among z zs) (drop_of_length-le b h) ∙ or-none any)

  pub hold-on : i < length b → SFits w64 (get_or b i (pos 0)) → Holding b (wire z) (any || eqb (of_z w64 z) (of_z w64 (get_or b i (pos 0)))) (i + 1)
  unfolding among
  hold-on l q =
      rw (to_z-of_z p) (record {
        left = whole ∙ ap (λ (zs : List ℤ). any || among z zs) (drop-next b i l) ∙ ap (λ (v : Bool). any || (v || among z (drop (i + 1) b))) (sym (number-eqb z (get_or b i (pos 0)) p q))
            ∙ or_assoc any (eqb (of_z w64 z) (of_z w64 (get_or b i (pos 0)))) (among z (drop (i + 1) b));
      })

pub ruleset hold_laws = (hold-end, hold-on, sfits_of)

-- none of those before the i-th comes again
pub record Differing (b : List ℤ) (i : ℕ) : Type 0 where
  pub left : apart b ≡ apart (drop i b)

pub differ-start : (b : List ℤ) → Differing b 0
differ-start b = record { left = refl }

module _ (b : List ℤ) (i : ℕ) (I : Differing b i) where
  pub differ-end : length b ≤ i → false ≡ not (apart b)
  unfolding apart
  differ-end h = sym (ap not (I.left ∙ ap apart (drop_of_length-le b h)))

  module _ (l : i < length b) (t : Bool) (q : SFits w64 (get_or b i (pos 0))) (e : t ≡ among (wire (get_or b i (pos 0))) (take (length b - (i + 1)) (drop (i + 1) b))) where
    -- all after the i-th, as `&block[i + 1..]` has it
    rest-is : take (length b - (i + 1)) (drop (i + 1) b) ≡ drop (i + 1) b
    rest-is = take_all (length b - (i + 1)) (drop (i + 1) b) (omega (arith, length-drop (i + 1) b))

    told : apart b ≡ (not t && apart (drop (i + 1) b))
    unfolding apart
    told = let k = to_z-of_z q in I.left ∙ ap apart (drop-next b i l) ∙ ap (λ (u : Bool). not u && apart (drop (i + 1) b)) (sym (e ∙ ap (among (wire (get_or b i (pos 0)))) rest-is ∙ ap (λ (z : ℤ). among z (drop (i + 1) b)) k))

    pub differ-found : t ≡ true → true ≡ not (apart b)
    differ-found h = sym (ap not (told ∙ ap (λ (u : Bool). not u && apart (drop (i + 1) b)) h))

    pub differ-on : t ≡ false → Differing b (i + 1)
    differ-on h = record { left = told ∙ ap (λ (u : Bool). not u && apart (drop (i + 1) b)) h }

pub ruleset differ_laws = (differ-end, differ-found, differ-on, sfits_of)

-- ---- labels that are known

module _ (σ : Environment) (β : By) where
  values-none : (zs : List ℤ) → Numbers σ β [] zs → zs ≡ []
  unfolding each numbers_of
  values-none zs Y = sym (ap (numbers_of β) (some_inj Y.known) ∙ Y.numbers)

  -- the first of them, and the rest
  pub record Split (c : Constant) (cs : List Constant) (zs : List ℤ) : Type 0 where
    pub x : Const
    pub ys : List ℤ
    pub all : zs ≡ (number_by β x ∷ ys)
    pub first-known : constant_of σ c ≡ some x
    pub first-inside : plain x ≡ true
    pub others : Numbers σ β cs ys

  values-split : (c : Constant) (cs : List Constant) (zs : List ℤ) → Numbers σ β (c ∷ cs) zs → Split c cs zs
  unfolding each all_plain numbers_of
  values-split c cs zs Y =
      bind-some Y.known λ x hx h. bind-some h λ xs hy e.
      let a : (x ∷ xs) ≡ Y.consts = some_inj e in
      let i : (plain x && all_plain xs) ≡ true = ap all_plain a ∙ Y.inside in
      let g = and-true (plain x) (all_plain xs) i in
      record {
        x = x;
        ys = numbers_of β xs;
        all = sym (ap (numbers_of β) a ∙ Y.numbers);
        first-known = hx;
        first-inside = g.0;
        others = record { consts = xs; known = hy; inside = g.1; numbers = refl };
      }

-- ---- from number to number

-- the number by the tables is that of the label
number-told : {s l : List ℕ} {scope : Scope} {σ : Environment} {m : Mark} {x : Const} (β : By) → Held s l scope σ → MarkIs s σ m x → number_at s l scope β m ≡ number_by β x
number-told by.Value H M = value-told H M
number-told by.Key H M = key-told H M

module _ (s l : List ℕ) (scope : Scope) (m : Mark) (r : ℤ) (q : SFits w64 r) (β : By) where
  pub number-value : β ≡ by.Value → r ≡ value_at s l scope m → wire r ≡ number_at s l scope β m
  number-value e f = rw (e, to_z-of_z q) f

  pub number-key : β ≡ by.Key → r ≡ key_at s l scope m → wire r ≡ number_at s l scope β m
  number-key e f = rw (e, to_z-of_z q) f

pub ruleset number_laws = (number-value, number-key, sfits_of)

module _ (s l : List ℕ) (scope : Scope) (β : By) (at : ℕ) (x : Maybe (Mark × ℕ)) (N : Nexts s at x) where
  pub value-done : x ≡ None → NextNumbers s l scope β at None
  value-done e = record { says = rw e at N.says }

  pub value-next : (m : Mark) (q : ℕ) (z : ℤ) → x ≡ Some (m, q) → z ≡ number_at s l scope β m → SFits w64 z → NextNumbers s l scope β at (Some (wire z, q))
  value-next m q z e f p =
      let g = rw e at N.says in
      rw (to_z-of_z p) (record {
        says = ((g.0.0, (g.0.1.0, record { number-is = λ σ H y h i. f ∙ number-told β H (g.0.1.1.tells σ y h i) })), g.1);
      })

pub ruleset next_laws = (value-done, value-next, sfits_of)

pub value-falls : (s l : List ℕ) (scope : Scope) (β : By) (p q : ℕ) (x : Maybe (ℤ × ℕ)) (z : ℤ) → NextNumbers s l scope β p x → x ≡ Some (z, q) → nodes_all (stack_at s q) < nodes_all (stack_at s p)
value-falls s l scope β p q x z N e = let g = rw e at N.says in g.1.nearer

-- the value of the next label before the others
module _ (s l : List ℕ) (scope : Scope) (β : By) (p : ℕ) (x : Maybe (ℤ × ℕ)) (N : NextNumbers s l scope β p x) (σ : Environment) (H : Held s l scope σ) (zs : List ℤ) (Y : Numbers σ β (left_at s p) zs) where
  none_left : x ≡ None → zs ≡ []
  none_left e = let g : left_at s p ≡ [] = rw e at N.says in let v : Numbers σ β [] zs = rw g at Y in values-none σ β zs v

  one_left : (z : ℤ) (q : ℕ) → x ≡ Some (z, q) → (ys : List ℤ) × (Numbers σ β (left_at s q) ys × (zs ≡ (z ∷ ys)))
  one_left z q e =
      let g = rw e at N.says in
      let v : Numbers σ β (g.0.0 ∷ left_at s q) zs = rw g.0.1.0 at Y in
      let d = values-split σ β g.0.0 (left_at s q) zs v in
      (d.ys, (d.others, d.all ∙ ap (λ (y : ℤ). y ∷ d.ys) (sym (g.0.1.1.number-is σ H d.x d.first-known d.first-inside))))

-- ---- a block is filled

-- n values of the labels from `at` to p stand in the block
pub record Filling (s l : List ℕ) (scope : Scope) (β : By) (b₀ : List ℤ) (at : ℕ) (b : List ℤ) (n p : ℕ) : Type 0 where
  pub long : length b ≡ length b₀
  pub within : n ≤ length b
  pub moved : nodes_all (stack_at s p) + n ≤ nodes_all (stack_at s at)
  pub filled : (σ : Environment) → Held s l scope σ → (zs : List ℤ) → Numbers σ β (left_at s at) zs → (ys : List ℤ) × (Numbers σ β (left_at s p) ys × (zs ≡ (take n b ++ ys)))

pub fill_start : (s l : List ℕ) (scope : Scope) (β : By) (b : List ℤ) (at : ℕ) → Filling s l scope β b at b 0 at
fill_start s l scope β b at = record { long = refl; within = omega arith; moved = omega arith; filled = λ σ H zs Y. (zs, (Y, refl)) }

module _ (s l : List ℕ) (scope : Scope) (β : By) (b₀ : List ℤ) (at : ℕ) (b : List ℤ) (n p : ℕ) (I : Filling s l scope β b₀ at b n p) where
  pub fill-full : length b₀ ≤ n → Fills s l scope β at (record { size = length b; next = p }) b
  fill-full h = record {
    within = omega arith;
    ended = λ i. absurd (omega arith);
    moved = let m = I.moved in let e = whole in omega arith;
    says = λ σ H zs Y. let c = I.filled σ H zs Y in (c.0, (c.1.0, c.1.1 ∙ ap (λ (j : ℕ). take j b ++ c.0) whole));
  }
    where
      whole : n ≡ length b
      whole = let u = I.long in let v = I.within in omega arith

  module _ (x : Maybe (ℤ × ℕ)) (N : NextNumbers s l scope β p x) where
    pub fill_end : x ≡ None → Fills s l scope β at (record { size = n; next = p }) b
    fill_end e = record { within = I.within; ended = λ i. rw e at N.says; moved = I.moved; says = I.filled }

    pub fill_on : (z : ℤ) (q : ℕ) → x ≡ Some (z, q) → SFits w64 z → n < length b₀ → Filling s l scope β b₀ at (set b n (wire z)) (n + 1) q
    fill_on z q e f k = rw (to_z-of_z f) (record {
      long = length-set b n z ∙ I.long;
      within = let j = length-set b n z in let i = h in omega arith;
      moved = let k = value-falls s l scope β p q x z N e in let m = I.moved in omega arith;
      filled = λ σ H zs Y.
          let c = I.filled σ H zs Y in
          let d = one_left s l scope β p x N σ H c.0 c.1.0 z q e in
          (d.0, (d.1.0, c.1.1 ∙ ap (λ (ys : List ℤ). take n b ++ ys) d.1.1 ∙ sym (append_snoc (take n b) z d.0) ∙ laid d.0));
    })
      where
        h : n < length b
        h = let u = I.long in omega arith

        place : suc n ≡ n + 1
        place = omega arith

        laid : (ys : List ℤ) → ((take n b ++ (z ∷ [])) ++ ys) ≡ (take (n + 1) (set b n z) ++ ys)
        laid ys = ap (λ (zs : List ℤ). zs ++ ys) (sym (take-suc-set b n z h) ∙ ap (λ (j : ℕ). take j (set b n z)) place)

pub ruleset fill_laws = (fill-full, fill_end, fill_on, sfits_of)

-- ---- a block is compared with the labels after it

-- no label from `at` to p has a value of the block
pub record Comparing (s l : List ℕ) (scope : Scope) (β : By) (b : List ℤ) (at p : ℕ) : Type 0 where
  pub compared : (σ : Environment) → Held s l scope σ → (zs : List ℤ) → Numbers σ β (left_at s at) zs → (ys : List ℤ) × (Numbers σ β (left_at s p) ys × (meets zs b ≡ meets ys b))

pub compare-start : (s l : List ℕ) (scope : Scope) (β : By) (b : List ℤ) (at : ℕ) → Comparing s l scope β b at at
compare-start s l scope β b at = record { compared = λ σ H zs Y. (zs, (Y, refl)) }

module _ (s l : List ℕ) (scope : Scope) (β : By) (b : List ℤ) (at p : ℕ) (x : Maybe (ℤ × ℕ)) (I : Comparing s l scope β b at p) (N : NextNumbers s l scope β p x) where
  pub compare-end : x ≡ None → ComesAgain s l scope β b at false
  unfolding meets
  compare-end e = record {
    says = λ σ H zs Y.
        let c = I.compared σ H zs Y in
        sym (c.1.1 ∙ ap (λ (ys : List ℤ). meets ys b) (none_left s l scope β p x N σ H c.0 c.1.0 e));
  }

  module _ (z : ℤ) (q : ℕ) (e : x ≡ Some (z, q)) (t : Bool) (k : SFits w64 z) (f : t ≡ among (wire z) b) where
    seen : (σ : Environment) → Held s l scope σ → (zs : List ℤ) → Numbers σ β (left_at s at) zs → (ys : List ℤ) × (Numbers σ β (left_at s q) ys × (meets zs b ≡ (t || meets ys b)))
    unfolding meets
    seen σ H zs Y =
        let i = to_z-of_z k in
        let c = I.compared σ H zs Y in
        let d = one_left s l scope β p x N σ H c.0 c.1.0 z q e in
        (d.0, (d.1.0, c.1.1 ∙ ap (λ (ys : List ℤ). meets ys b) d.1.1 ∙ ap (λ (u : Bool). u || meets d.0 b) (sym (f ∙ ap (λ (y : ℤ). among y b) i))))

    pub compare-found : t ≡ true → ComesAgain s l scope β b at true
    compare-found h = record { says = λ σ H zs Y. let g = seen σ H zs Y in sym (g.1.1 ∙ ap (λ (u : Bool). u || meets g.0 b) h) }

    pub compare-on : t ≡ false → Comparing s l scope β b at q
    compare-on h = record { compared = λ σ H zs Y. let g = seen σ H zs Y in (g.0, (g.1.0, g.1.1 ∙ ap (λ (u : Bool). u || meets g.0 b) h)) }

pub ruleset compare_laws = (compare-end, compare-found, compare-on, sfits_of)

block-bits : (t a : Bool) → t ≡ not a → t ≡ true → a ≡ false
block-bits t true f h = absurd (true≢false (sym h ∙ f))
block-bits t false f h = refl

clear-bits : (t a : Bool) → t ≡ not a → t ≡ false → a ≡ true
clear-bits t true f h = refl
clear-bits t false f h = absurd (true≢false (sym f ∙ h))

module _ (s l : List ℕ) (scope : Scope) (β : By) (b : List ℤ) (at : ℕ) (t : Bool) (e : t ≡ not (apart b)) where
  pub block-twice : t ≡ true → Recurs s l scope β b at true
  block-twice h = record { says = λ σ H zs Y. apart-append b zs ∙ ap (λ (u : Bool). (u && not (meets zs b)) && apart zs) (block-bits t (apart b) e h) }

  pub block-once : (r : Bool) → t ≡ false → ComesAgain s l scope β b at r → Recurs s l scope β b at r
  block-once r h C = record {
    says = λ σ H zs Y. apart-append b zs ∙ ap (λ (u : Bool). (u && not (meets zs b)) && apart zs) (clear-bits t (apart b) e h) ∙ ap (λ (u : Bool). not u && apart zs) (sym (C.says σ H zs Y));
  }

pub ruleset block_laws = (block-twice, block-once)

-- ---- block by block

not-not : (a : Bool) → not (not a) ≡ a
not-not true = refl
not-not false = refl

-- none of the labels from `at` to p comes again after it
pub record Clearing (s l : List ℕ) (scope : Scope) (β : By) (b₀ : List ℤ) (at : ℕ) (b : List ℤ) (p : ℕ) : Type 0 where
  pub long : length b ≡ length b₀
  pub cleared : (σ : Environment) → Held s l scope σ → (zs : List ℤ) → Numbers σ β (left_at s at) zs → (ys : List ℤ) × (Numbers σ β (left_at s p) ys × (apart zs ≡ apart ys))

pub clear-start : (s l : List ℕ) (scope : Scope) (β : By) (b : List ℤ) (at : ℕ) → Clearing s l scope β b at b at
clear-start s l scope β b at = record { long = refl; cleared = λ σ H zs Y. (zs, (Y, refl)) }

pub block-part : (s l : List ℕ) (scope : Scope) (β : By) (p : ℕ) (r : Filled) (b : List ℤ) → Fills s l scope β p r b → r.size ≡ length (take r.size b)
block-part s l scope β p r b F = sym (length-take-le r.size b F.within)

module _ (s l : List ℕ) (scope : Scope) (β : By) (b₀ : List ℤ) (at : ℕ) (b : List ℤ) (p : ℕ) (I : Clearing s l scope β b₀ at b p) (r : Filled) (b' : List ℤ) (F : Fills s l scope β p r b') (e : length b' ≡ length b) where
  -- a full block holds a label
  pub block_falls : 0 < length b₀ → length b' ≤ r.size → nodes_all (stack_at s r.next) < nodes_all (stack_at s p)
  block_falls h k = let m = F.moved in let u = I.long in omega arith

  -- a block that is not full holds all labels that are left
  pub clear-last : (t : Bool) → r.size < length b' → t ≡ not (apart (take r.size b')) → DiffersFrom s l scope β at (not t)
  clear-last t h i = record {
    says = λ σ H zs Y.
        let c = I.cleared σ H zs Y in
        let d = F.says σ H c.0 c.1.0 in
        let v : Numbers σ β [] d.0 = rw (F.ended h) at d.1.0 in
        let y : c.0 ≡ take r.size b' = d.1.1 ∙ ap (λ (ys : List ℤ). take r.size b' ++ ys) (values-none σ β d.0 v) ∙ append-nil (take r.size b') in
        ap not i ∙ not-not (apart (take r.size b')) ∙ sym (c.1.1 ∙ ap apart y);
  }

  module _ (t : Bool) (R : Recurs s l scope β (take r.size b') r.next t) where
    after : (σ : Environment) → Held s l scope σ → (zs : List ℤ) → Numbers σ β (left_at s at) zs → (ys : List ℤ) × (Numbers σ β (left_at s r.next) ys × (apart zs ≡ (not t && apart ys)))
    after σ H zs Y =
        let c = I.cleared σ H zs Y in
        let d = F.says σ H c.0 c.1.0 in
        (d.0, (d.1.0, c.1.1 ∙ ap apart d.1.1 ∙ R.says σ H d.0 d.1.0))

    pub clear-found : t ≡ true → DiffersFrom s l scope β at false
    clear-found h = record { says = λ σ H zs Y. let g = after σ H zs Y in sym (g.1.1 ∙ ap (λ (u : Bool). not u && apart g.0) h) }

    pub clear-on : t ≡ false → Clearing s l scope β b₀ at b' r.next
    clear-on h = record { long = e ∙ I.long; cleared = λ σ H zs Y. let g = after σ H zs Y in (g.0, (g.1.0, g.1.1 ∙ ap (λ (u : Bool). not u && apart g.0) h)) }

pub ruleset clear_laws = (clear-last, clear-found, clear-on)

-- ---- the arms that are read

plain-append : (xs ys : List Const) → all_plain xs ≡ true → all_plain ys ≡ true → all_plain (xs ++ ys) ≡ true
unfolding all_plain
plain-append [] ys h k = k
plain-append (x ∷ xs) ys h k = let g = and-true (plain x) (all_plain xs) h in and-both (plain x) (all_plain (xs ++ ys)) g.0 (plain-append xs ys g.1 k)

pub arms-plain : (b : Script.Arms) (js : List ℕ) → kept_arms b js ≡ true → all_plain (labels_of b) ≡ true
unfolding kept_arms labels_of all_plain
arms-plain (else_arm s) js h = refl
arms-plain no_else js h = refl
arms-plain (arm cs s bs) js h =
    let g = and-true (all_plain cs && kept_stmt s js) (kept_arms bs js) h in
    let k = and-true (all_plain cs) (kept_stmt s js) g.0 in
    plain-append cs (labels_of bs) k.0 (arms-plain bs js g.1)

-- arms that fit have names that are known, keep the rules and have labels of the kind k
pub record FitArms (σ : Environment) (js : List ℕ) (k : ℕ) (a : Arms) : Type 0 where
  pub read : Script.Arms
  pub known : arms_of σ a ≡ some read
  pub kept : kept_arms read js ≡ true
  pub alike : all_of k (labels_of read) ≡ true

fit-arms : (σ : Environment) (js : List ℕ) (k : ℕ) (a : Arms) (c : Cases) → arms_staged σ js k (some a) ≡ fits c → FitArms σ js k a
unfolding arms_staged staged named ruled
fit-arms σ js k a c h = go (arms_of σ a) refl h
  where
    rules : (t : Bool) (o : Option Cases) → ruled t o ≡ fits c → t ≡ true
    rules true o h = refl
    rules false o h = unfit-fits h

    kinds : (t : Bool) (o : Option Cases) → ruled t o ≡ fits c → (d : Cases) × (o ≡ some d)
    kinds true none h = unfit-fits h
    kinds true (some d) h = (d, refl)
    kinds false o h = unfit-fits h

    go : (o : Option Script.Arms) → arms_of σ a ≡ o → named o (λ bs. kept_arms bs js) (elab_arms σ.types σ.vars k) ≡ fits c → FitArms σ js k a
    go none e h = unnamed-fits h
    go (some b) e h =
        let d = kinds (kept_arms b js) (elab_arms σ.types σ.vars k b) h in
        record { read = b; known = e; kept = rules (kept_arms b js) (elab_arms σ.types σ.vars k b) h; alike = arms-kind σ.types σ.vars k b d.0 d.1 }

differ-known : (σ : Environment) (a : Arms) (b : Script.Arms) → arms_of σ a ≡ some b → labels_differ σ (some a) ≡ differ (labels_of b)
unfolding labels_differ
differ-known σ a b h = ap (λ (o : Option Script.Arms). elim o [ none ↦ true | some b ↦ differ (labels_of b) ]) h

-- ---- `differ_by`

module _ (s l : List ℕ) (scope : Scope) (β : By) (at : ℕ) (h : Maybe ℕ) (A : EntersArm s at h) where
  pub by-none : h ≡ None → DiffersBy s l scope β at true
  unfolding apart
  by-none e = let g = rw e at A.says in record {
    says = λ σ H zs Y. let y : Numbers σ β [] zs = rw g at Y in sym (ap apart (values-none σ β zs y));
  }

  pub by-arm : (q : ℕ) (r : Bool) → h ≡ Some q → DiffersFrom s l scope β q r → DiffersBy s l scope β at r
  by-arm q r e D = let g = rw e at A.says in record { says = λ σ H zs Y. let y : Numbers σ β (left_at s q) zs = rw g.0 at Y in D.says σ H zs y }

pub ruleset by_laws = (by-none, by-arm)

-- ---- the labels of arms in the text

module _ (s l : List ℕ) (scope : Scope) (at : ℕ) (r : Bool) where
  -- in the environment of the line
  told-arms : DiffersBy s l scope by.Value at r → (σ : Environment) → Held s l scope σ → (js : List ℕ) (k d n : ℕ) (a : Arms × ℕ) (c : Cases)
      → arms_in d n (first (stack_at s at)) ≡ some a → arms_staged σ js k (some a.0) ≡ fits c → r ≡ labels_differ σ (some a.0)
  told-arms D σ H js k d n a c h i =
      let b = fit-arms σ js k a.0 c i in
      D.says σ H (numbers_of by.Value (labels_of b.read))
      (rw (marks-arms d n (first (stack_at s at)) a h) (record { consts = labels_of b.read; known = labels-known σ a.0 b.read b.known; inside = arms-plain b.read js b.kept; numbers = refl }))
      ∙ sym (differ-known σ a.0 b.read b.known ∙ differ-apart k (labels_of b.read) b.alike)

  -- of any kinds
  pub loose_arms : DiffersBy s l scope by.Key at r → Differs s l scope at r
  loose_arms D = record {
    says = λ ts top σ bs S d n a b i k p.
        D.says σ (record { ts = ts; top = top; bs = bs; scene = S }) (numbers_of by.Key (labels_of b))
        (rw (marks-arms d n (first (stack_at s at)) a i) (record { consts = labels_of b; known = labels-known σ a.0 b k; inside = p; numbers = refl }))
        ∙ sym (keys-differ (labels_of b) p);
  }

clear-is : (f : Fault) → f ≡ Clear → is_clear f ≡ true
clear-is f h = ap is_clear h

module _ (s l : List ℕ) (scope : Scope) (at : ℕ) (f : Fault) (t : Bool) (e : t ≡ is_clear f) where
  pub fault-before : t ≡ false → Repeating s l scope at f Clear
  fault-before h = record { small = refl; says = λ i. absurd (true≢false (sym (clear-is f i) ∙ sym e ∙ h)) }

  module _ (r : Bool) (D : DiffersBy s l scope by.Value at r) where
    fault-by : (w : Fault) → w ≡ cond r Clear Kind → lowest w Kind ≡ Kind → Repeating s l scope at f w
    fault-by w g h = record {
      small = h;
      says = λ z ts top σ bs S js k d n a c j u. g ∙ ap (λ (v : Bool). cond v Clear Kind) (told-arms s l scope at r D σ (record { ts = ts; top = top; bs = bs; scene = S }) js k d n a c j u);
    }

    pub fault-none : r ≡ true → Repeating s l scope at f Clear
    fault-none h = fault-by Clear (sym (ap (λ (v : Bool). cond v Clear Kind) h)) refl

    pub fault-twice : r ≡ false → Repeating s l scope at f Kind
    fault-twice h = fault-by Kind (sym (ap (λ (v : Bool). cond v Clear Kind) h)) refl

pub ruleset fault_laws = (fault-before, fault-none, fault-twice)
