-- The laws of the members of a set, and of the set.
use mathlib.Core.Path.{◌≡◌, refl, sym, ap, ◌∙◌}
use mathlib.Core.Bool.{Bool, true, false, cond, true≢false, false≢true}
use mathlib.Core.List.{List, [], ◌∷◌}
use mathlib.Core.Option.{Option, none, some}
use Prim.Native.Nat.{ℕ, ◌+◌, ◌<◌, ◌≤◌}
use native.Mathlib.Omega.{arith}
use borrow.Author.Tests.{eq-eqb, ne_eqb, eqb-true}
use lib.Dec.{eqb}
use lib.ListN.{get_or}
use lib.Seq.{get_or-set_other}
use Rattle.law.specs.Base.{◌>>=◌, given}
use Rattle.law.specs.Code.{Codes, no_codes, ◌with◌, make_set}
use Rattle.law.specs.Elaborate.{Elaborated, elaborated, elab_members}
use Rattle.law.specs.Environment.{Environment}
use Rattle.code.specs.Layout.{Out, lay, link, lay_code, lay_codes, bits}
use Rattle.law.specs.Names.{exprs_of, type_of}
use Rattle.law.specs.Rules.{plain_exprs}
use Rattle.rule_stages.specs.Stages.{Staged, wrong, unnamed, unfit, fits, staged, named, ruled, join, or_unfit, unknown, expr_staged, members_staged}
use Rattle.law.specs.Syntax as Syntax
use Rattle.law.specs.Trees.{Tree, Trees, end, ◌then◌, Run, first, later}
use Rattle.law_theorems.specs.Readings.{stack_at}
use Rattle.law.specs.Types.{info_at, set?, base_of}
use Rattle.law_theorems.proofs.Inversion.{none-some, some_inj}
use Rattle.code.proofs.LayoutRegions.{lay-g}
use Rattle.code.specs.LayoutRegions.{Same}
use Rattle.rule_stages.proofs.OnePassExprs.{member-staged, members-staged, members-unknown}
use Rattle.table_list.specs.Laid.{Laid}
use Rattle.text_heads.specs.Parts.{rest, expr_in, exprs_in, part_of, type_name_in}
use Rattle.table_scope.specs.declared.Scope.{Scope}
use Rattle.rule_faults.specs.declared.Fault.{Fault}
use Rattle.rule_faults.specs.declared.Fault.TheVariants.{Clear, Kind, Name, Form}
use Rattle.table_scope.specs.Descriptions.{info_of}
use Rattle.table_scope.specs.Scene.{Scene}
use Rattle.table_scope.specs.Sides.{host_in}
use Rattle.table_scope.proofs.Kept.{scene-kept}
use Rattle.table_scope.proofs.Telling.{shape-set, low_told, high-told, element-told, host-in}
use Rattle.rule_atoms.specs.declared.Typed.{Typed}
use Rattle.rule_atoms.specs.Answering.{TypeTold, GivesType}
use Rattle.text_heads.specs.declared.ExprHead.TheVariants as EH
use Rattle.text_heads.proofs.Expressions.{members-parts}
use Rattle.rule_faults.specs.declared.Got.{Got}
use Rattle.std.specs.Prelude.{Option as Maybe, Some, None}
use Rattle.rule_faults.specs.Got.{lowest, is_form, fault_of, failed_got, Told}
use Rattle.rule_faults.proofs.Order.{lowest-assoc, lowest-clear}
use Rattle.text_parts.specs.Parts.{Shuts}
use Rattle.rule_expr_nodes.specs.Nodes.{Made, Makes, failed_made, node_made, if_clear}
use Rattle.rule_expressions.specs.Walks.{ExprTold, GivesExpr, form_in, GivesForm}
use Rattle.rule_expressions.specs.Members.{many, GivesMembers}
use Rattle.rule_expr_nodes.specs.Members.{member_fault}
use Rattle.rule_expr_nodes.specs.Links.{linked}
use Rattle.rule_expr_leaves.specs.Links.{set_node, set_made}
use Rattle.rule_expressions.proofs.Joining.{fits-inj, told-wrong, told-unnamed, told-or, told-one}
use Rattle.rule_expressions.proofs.Closing.{form-true, same_refl, same-trans, right-lowest, clear-form, rest-is, Stays, stays-clear, stays-cond, stays-node, stays-failed}
use Rattle.rule_expressions.proofs.Operators.{expr-missing, expr-failed}
use Rattle.rule_expressions.proofs.Dispatch.{failed-leaves}

-- ---- faults

-- both are clear where the lower is
pub clear_both : (a b : Fault) → lowest a b ≡ Clear → (a ≡ Clear) × (b ≡ Clear)
clear_both Clear b h = (refl, h)
clear_both Kind Clear h = absurd (let z : ◌≡◌ {A = ℕ} 0 1 = cc in omega arith)
clear_both Kind Kind h = absurd (let z : ◌≡◌ {A = ℕ} 0 1 = cc in omega arith)
clear_both Kind Name h = absurd (let z : ◌≡◌ {A = ℕ} 0 1 = cc in omega arith)
clear_both Kind Form h = absurd (let z : ◌≡◌ {A = ℕ} 0 1 = cc in omega arith)
clear_both Name Clear h = absurd (let z : ◌≡◌ {A = ℕ} 0 1 = cc in omega arith)
clear_both Name Kind h = absurd (let z : ◌≡◌ {A = ℕ} 0 1 = cc in omega arith)
clear_both Name Name h = absurd (let z : ◌≡◌ {A = ℕ} 0 1 = cc in omega arith)
clear_both Name Form h = absurd (let z : ◌≡◌ {A = ℕ} 0 1 = cc in omega arith)
clear_both Form b h = absurd (let z : ◌≡◌ {A = ℕ} 0 1 = cc in omega arith)

-- ---- one member more

abbrev pub one_more : ℕ → Elaborated → Codes → Staged Codes
one_more k x cs = or_unfit (given (eqb k x.kind) (x.code with cs))

eqb-turned : (a b : ℕ) → eqb a b ≡ eqb b a
eqb-turned a b = go (eqb a b) refl
  where
    go : (t : Bool) → eqb a b ≡ t → t ≡ eqb b a
    go true e = sym (eq-eqb b a (sym (eqb-true a b e)))
    go false e = sym (ne_eqb b a (λ h. true≢false (sym (eq-eqb a b (sym h)) ∙ e)))

-- the fault of a member and the others
pub more-fault : (k kind : ℕ) (A : Staged Elaborated) (B : Staged Codes) → ((x : Elaborated) → A ≡ fits x → kind ≡ x.kind) → fault_of (join A B (one_more k)) ≡ lowest (member_fault (fault_of A) kind k) (fault_of B)
unfolding join member_fault or_unfit given
more-fault k kind wrong B e = refl
more-fault k kind unnamed wrong e = refl
more-fault k kind unnamed unnamed e = refl
more-fault k kind unnamed unfit e = refl
more-fault k kind unnamed (fits y) e = refl
more-fault k kind unfit wrong e = refl
more-fault k kind unfit unnamed e = refl
more-fault k kind unfit unfit e = refl
more-fault k kind unfit (fits y) e = refl
more-fault k kind (fits x) B e = rw (e x refl) (go B (eqb k x.kind) refl)
  where
    go : (B : Staged Codes) (t : Bool) → eqb k x.kind ≡ t → fault_of (join (fits x) B (one_more k)) ≡ lowest (cond (eqb x.kind k) Clear Kind) (fault_of B)
    go wrong true h = rw (eqb-turned x.kind k, h) refl
    go wrong false h = rw (eqb-turned x.kind k, h) refl
    go unnamed true h = rw (eqb-turned x.kind k, h) refl
    go unnamed false h = rw (eqb-turned x.kind k, h) refl
    go unfit true h = rw (eqb-turned x.kind k, h) refl
    go unfit false h = rw (eqb-turned x.kind k, h) refl
    go (fits y) true h = rw (eqb-turned x.kind k, h) refl
    go (fits y) false h = rw (eqb-turned x.kind k, h) refl

-- and its code
more-code : (k kind : ℕ) (A : Staged Elaborated) (B : Staged Codes) → ((x : Elaborated) → A ≡ fits x → kind ≡ x.kind) → member_fault (fault_of A) kind k ≡ Clear → (cs : Codes) → B ≡ fits cs
    → (x : Elaborated) × (A ≡ fits x) × (join A B (one_more k) ≡ fits (x.code with cs))
unfolding join member_fault or_unfit given
more-code k kind wrong B e h cs b = absurd (let z : ◌≡◌ {A = ℕ} 0 1 = cc in omega arith)
more-code k kind unnamed B e h cs b = absurd (let z : ◌≡◌ {A = ℕ} 0 1 = cc in omega arith)
more-code k kind unfit B e h cs b = absurd (let z : ◌≡◌ {A = ℕ} 0 1 = cc in omega arith)
more-code k kind (fits x) B e h cs b = (x, refl, rw b (go (eqb k x.kind) refl))
  where
    kinds : (t : Bool) → eqb kind k ≡ t → cond t Clear Kind ≡ Clear → eqb kind k ≡ true
    kinds true i j = i
    kinds false i j = absurd (let z : ◌≡◌ {A = ℕ} 0 1 = cc in omega arith)

    go : (t : Bool) → eqb k x.kind ≡ t → one_more k x cs ≡ fits (x.code with cs)
    go true i = rw i refl
    go false i = absurd (true≢false (sym (kinds (eqb kind k) refl h) ∙ ap (λ n. eqb n k) (e x refl) ∙ eqb-turned x.kind k ∙ i))

-- ---- the loop

form-lowest : (f : Fault) → lowest f Form ≡ Form
form-lowest Clear = refl
form-lowest Kind = refl
form-lowest Name = refl
form-lowest Form = refl

clear-form-no : Form ≡ Clear → ⊥
clear-form-no h = let z : ◌≡◌ {A = ℕ} 0 1 = cc in omega arith

tops : (slot t : ℕ) (l : List ℕ) → (t ≡ (lay_codes no_codes slot t l).top) × (l ≡ (lay_codes no_codes slot t l).list)
unfolding lay_code
tops slot t l = (refl, refl)

none_left : (σ : Environment) (k d : ℕ) → members_staged σ k (exprs_in d end) ≡ fits no_codes
unfolding members_staged exprs_in staged named ruled exprs_of plain_exprs elab_members
none_left σ k d = refl

members_step : (σ : Environment) (k d : ℕ) (t : Tree Run) (ts : Trees Run) → members_staged σ k (exprs_in d (t then ts)) ≡ join (expr_staged σ (expr_in d (t then ts))) (members_staged σ k (exprs_in d ts)) (one_more k)
unfolding exprs_in expr_in part_of
members_step σ k d t ts = member-staged σ k (expr_in d (t then ts)) (exprs_in d ts)

members-form : (σ : Environment) (k d : ℕ) (us : Trees Run) → (us ≡ end → ⊥) → expr_in d us ≡ none → members_staged σ k (exprs_in d us) ≡ wrong
unfolding exprs_in expr_in part_of members_staged staged ◌>>=◌
members-form σ k d end n h = absurd (n refl)
members-form σ k d (t then ts) n h = rw h refl

-- what is done, and what is left, come to all
pub record Sums (σ : Environment) (k d : ℕ) (us₀ us : Trees Run) (chain top : ℕ) (l₀ : List ℕ) (f : Fault) (slot t : ℕ) (l : List ℕ) : Type 0 where
  pub faults : fault_of (members_staged σ k (exprs_in d us₀)) ≡ lowest f (fault_of (members_staged σ k (exprs_in d us)))
  pub codes : f ≡ Clear → (cs : Codes) → members_staged σ k (exprs_in d us) ≡ fits cs → (as' : Codes) × (members_staged σ k (exprs_in d us₀) ≡ fits as') × (lay_codes as' chain top l₀ ≡ lay_codes cs slot t l)

pub record Sofar (s l₀ ts : List ℕ) (scope : Scope) (k d at chain top : ℕ) (f : Fault) (next slot t : ℕ) (l : List ℕ) : Type 0 where
  pub moved : later (stack_at s at) ≡ later (stack_at s next)
  pub kept : chain ≤ top → Same 0 chain l l₀
  pub up : top ≤ t
  pub above : chain ≤ top → chain ≤ slot
  pub sums : (σ : Environment) (bs : List ℕ) → Scene s l₀ ts scope chain σ bs → chain ≤ top → Sums σ k d (first (stack_at s at)) (first (stack_at s next)) chain top l₀ f slot t l

pub sofar-start : (s l ts : List ℕ) (scope : Scope) (k d at chain top : ℕ) → Sofar s l ts scope k d at chain top Clear at chain top l
sofar-start s l ts scope k d at chain top = record {
  moved = refl;
  kept = λ _. same_refl chain l;
  up = omega arith;
  above = λ _. omega arith;
  sums = λ σ bs S h. record { faults = refl; codes = λ _ cs e. (cs, e, refl) };
}

module _ (s l₀ ts : List ℕ) (scope : Scope) (k d at chain top : ℕ) (f : Fault) (next slot t : ℕ) (l : List ℕ) (I : Sofar s l₀ ts scope k d at chain top f next slot t l) where
  module _ (e : Maybe ℕ) (E : Shuts s next e) where
    pub members-done : (q : ℕ) (r : Got) → e ≡ Some q → r ≡ failed_got f 0 q t → GivesMembers s l₀ ts scope k d at chain top r l
    members-done q r h m =
        let z = rw h at E.says in
        rw m (record {
          goes = λ _. I.moved ∙ z.around;
          keeps = I.kept;
          grows = I.up;
          says = λ σ bs S u.
              let Q = I.sums σ bs S u in
              let n : members_staged σ k (exprs_in d (first (stack_at s next))) ≡ fits no_codes = rw z.here (none_left σ k d) in
              let a : fault_of (members_staged σ k (exprs_in d (first (stack_at s at)))) ≡ f = Q.faults ∙ rw n (lowest-clear f) in
              record { fault-is = sym a; laid = λ cs i. ended cs (sym a ∙ ap fault_of i) i Q n };
        })
      where
        ended : {σ : Environment} (cs : Codes) → f ≡ Clear → members_staged σ k (exprs_in d (first (stack_at s at))) ≡ fits cs
            → Sums σ k d (first (stack_at s at)) (first (stack_at s next)) chain top l₀ f slot t l → members_staged σ k (exprs_in d (first (stack_at s next))) ≡ fits no_codes
            → (t ≡ (lay_codes cs chain top l₀).top) × (l ≡ (lay_codes cs chain top l₀).list)
        ended {σ} cs c i Q n = let x = Q.codes c no_codes n in rw (← fits-inj (sym x.1 ∙ i), x.2) (tops slot t l)

    module _ (h : e ≡ None) (x : Got) (l₁ : List ℕ) (X : GivesExpr s l ts scope d next t x l₁) (b : Bool) (i : b ≡ is_form x.fault) where
      pub members-wrong : b ≡ true → GivesMembers s l₀ ts scope k d at chain top x l₁
      members-wrong z = record {
        goes = λ y. absurd (true≢false (sym (sym i ∙ z) ∙ y));
        keeps = λ u. below_chain u X.moves.keeps;
        grows = omega (arith, I.up, X.moves.grows);
        says = λ σ bs S u.
            let S₁ = scene-kept {top' = t} S (I.kept u) (omega (arith, I.up, u)) in
            let w = members-form σ k d (first (stack_at s next)) (rw h at E.says) (expr-missing (X.says σ bs S₁) (sym i ∙ z)) in
            let a : fault_of (members_staged σ k (exprs_in d (first (stack_at s at)))) ≡ Form = (I.sums σ bs S u).faults ∙ rw w (form-lowest f) in
            record { fault-is = form-true x.fault (sym i ∙ z) ∙ sym a; laid = λ cs j. absurd (clear-form-no (sym a ∙ ap fault_of j)) };
      }
        where
          below_chain : chain ≤ top → Same 0 t l₁ l → Same 0 chain l₁ l₀
          below_chain u K = same-trans K (I.kept u) (omega (arith, I.up))

      -- one member more
      module _ (z : b ≡ false) (g f' : Fault) (c : g ≡ member_fault x.fault x.kind k) (c' : f' ≡ lowest f g) (t' : ℕ) (l' : List ℕ) (L : Laid (linked slot x.place x.top l₁) t' l') where
        next-sums : (σ : Environment) (bs : List ℕ) → Scene s l₀ ts scope chain σ bs → chain ≤ top
            → Sums σ k d (first (stack_at s at)) (first (stack_at s x.next)) chain top l₀ f' (x.top + 1) t' l'
        unfolding lay_code linked link lay
        next-sums σ bs S u =
            let S₁ = scene-kept {top' = t} S (I.kept u) (omega (arith, I.up, u)) in
            let T = (X.says σ bs S₁).told in
            let B = (X.moves.goes (sym i ∙ z)).1 in
            let J : members_staged σ k (exprs_in d (first (stack_at s next))) ≡ join (expr_staged σ (expr_in d (first (stack_at s next)))) (members_staged σ k (exprs_in d (first (stack_at s x.next)))) (one_more k) = rw B.here (members_step σ k d (X.moves.goes (sym i ∙ z)).0 (first (stack_at s x.next))) in
            let K : (y : Elaborated) → expr_staged σ (expr_in d (first (stack_at s next))) ≡ fits y → x.kind ≡ y.kind = λ y e. (T.laid y e).0 in
            let Q = I.sums σ bs S u in
            let G : g ≡ member_fault (fault_of (expr_staged σ (expr_in d (first (stack_at s next))))) x.kind k = c ∙ ap (λ h. member_fault h x.kind k) T.fault-is in
            record {
              faults = Q.faults ∙ ap (lowest f) (ap fault_of J ∙ more-fault k x.kind _ _ K ∙ ap (λ h. lowest h (fault_of (members_staged σ k (exprs_in d (first (stack_at s x.next)))))) (sym G)) ∙ lowest-assoc f g _ ∙ ap (λ h. lowest h (fault_of (members_staged σ k (exprs_in d (first (stack_at s x.next)))))) (sym c');
              codes = λ v cs w.
                  let p = clear_both f g (sym c' ∙ v) in
                  let y = more-code k x.kind (expr_staged σ (expr_in d (first (stack_at s next)))) (members_staged σ k (exprs_in d (first (stack_at s x.next)))) K (sym G ∙ p.1) cs w in
                  let a = Q.codes p.0 (y.0.code with cs) (J ∙ y.2) in
                  (a.0, a.1, a.2 ∙ rw (← (T.laid y.0 y.1).1, ← L.free, ← L.left) refl);
            }

        members-next : Sofar s l₀ ts scope k d at chain top f' x.next (x.top + 1) t' l'
        unfolding linked link
        members-next =
            let B = (X.moves.goes (sym i ∙ z)).1 in
            let G = lay-g (x.place ∷ 0 ∷ []) x.top l₁ in
            record {
              moved = I.moved ∙ B.around;
              kept = λ u. record {
                at = λ j p q.
                    ap (λ m. get_or m j 0) L.left ∙ get_or-set_other (lay (x.place ∷ 0 ∷ []) x.top l₁).list slot j _ 0 (let v = I.above u in omega arith)
                    ∙ G.below j (omega (arith, I.up, X.moves.grows)) ∙ X.moves.keeps.at j p (omega (arith, I.up)) ∙ (I.kept u).at j p q;
              };
              up = let e = L.free in omega (arith, I.up, X.moves.grows, G.up);
              above = λ u. omega (arith, I.up, X.moves.grows);
              sums = next-sums;
            }

        pub members-again : (v : ℕ) → v ≡ x.top + 1 → Sofar s l₀ ts scope k d at chain top f' x.next v t' l'
        members-again v q = rw q members-next

        pub members-falls : many (first (stack_at s x.next)) < many (first (stack_at s next))
        unfolding many
        members-falls = let B = (X.moves.goes (sym i ∙ z)).1 in rw B.here (omega arith)

pub ruleset members-laws = (members-done, members-wrong)

-- ---- the set

stays-set : (l ts : List ℕ) (f : Fault) (t chain : ℕ) (m : Got) → Stays (set_made l ts f t chain m) m.next m.top l
unfolding set_made set_node
stays-set l ts f t chain m =
    stays-clear (lowest f m.fault) 0 m.next m.top l (set_node (info_of l ts t) t chain m l)
    (stays-cond (eqb (info_of l ts t).shape 1) (stays-node t m.next m.top (6 ∷ (info_of l ts t).low ∷ (info_of l ts t).high ∷ chain ∷ []) l) (stays-failed Kind 0 m.next m.top l))

set-fault-form : (l ts : List ℕ) (f : Fault) (t chain : ℕ) (m : Got) → is_form (set_made l ts f t chain m).got.fault ≡ false → is_form (lowest f m.fault) ≡ false
unfolding set_made
set-fault-form l ts f t chain m h = clear-form (lowest f m.fault) 0 m.next m.top l (set_node (info_of l ts t) t chain m l) h

-- of an unknown type
unknown-told : {K : Elaborated → ℕ} {L : Elaborated → ℕ → List ℕ → Out} {top : ℕ} {l : List ℕ} (B : Staged Codes) (q t : ℕ) (l₂ : List ℕ) (M : Made)
    → Told (unknown B) K L top l (if_clear (lowest Name (fault_of B)) 0 q t l₂ M).got (if_clear (lowest Name (fault_of B)) 0 q t l₂ M).list
unfolding unknown if_clear
unknown-told wrong q t l₂ M = told-wrong refl
unknown-told unnamed q t l₂ M = told-unnamed refl
unknown-told unfit q t l₂ M = told-unnamed refl
unknown-told (fits cs) q t l₂ M = told-unnamed refl

-- a type's name that is there, known or not
data TypeRead (σ : Environment) (o : Option Syntax.TypeName) (r : Typed) : Type 0 where
  read_none : o ≡ none → r.fault ≡ Form → TypeRead σ o r
  read-unknown : (n : Syntax.TypeName) → o ≡ some n → type_of σ n ≡ none → r.fault ≡ Name → TypeRead σ o r
  read_known : (n : Syntax.TypeName) (k : ℕ) → o ≡ some n → type_of σ n ≡ some k → r.fault ≡ Clear → r.kind ≡ k → TypeRead σ o r

type-read : (σ : Environment) (o : Option Syntax.TypeName) (r : Typed) → TypeTold (staged o (type_of σ) (λ _. true) some) r → TypeRead σ o r
unfolding staged named ruled
type-read σ none r T = read_none refl T.fault-is
type-read σ (some n) r T = go (type_of σ n) refl T
  where
    go : (u : Option ℕ) → type_of σ n ≡ u → TypeTold (named u (λ _. true) some) r → TypeRead σ (some n) r
    go none e T = read-unknown n refl e T.fault-is
    go (some k) e T = read_known n k refl e T.fault-is (T.kind-is k refl)

set-form : (d : ℕ) (us : Trees Run) → form_in EH.Members d us ≡ (type_name_in us >>= λ n. exprs_in d (rest us) >>= λ es. some (Syntax.members n es))
unfolding form_in ◌>>=◌
set-form d us = members-parts d us

type-bind : {A B : Type 0} (o : Option A) (a : A) (f : A → Option B) → o ≡ some a → (o >>= f) ≡ f a
unfolding ◌>>=◌
type-bind o a f h = rw h refl

type-none : {A B : Type 0} (o : Option A) (f : A → Option B) → o ≡ none → (o >>= f) ≡ none
unfolding ◌>>=◌
type-none o f h = rw h refl

module _ (s l ts : List ℕ) (scope : Scope) (d at top : ℕ) (y : Typed) (Y : GivesType s l scope at y) (t : Bool) (e : t ≡ is_form y.fault) where
  pub set-wrong : (r : Got) (q : ℕ) → t ≡ true → r ≡ failed_got Form 0 q top → GivesForm s l ts scope EH.Members d at top r l
  set-wrong r q z m = rw m (record {
    leaves = failed-leaves s at top q l;
    says = λ σ bs S. no-type σ (type-read σ (type_name_in (first (stack_at s at))) y (Y.says ts top σ bs S));
  })
    where
      no-type : (σ : Environment) → TypeRead σ (type_name_in (first (stack_at s at))) y → ExprTold σ (form_in EH.Members d (first (stack_at s at))) top l (failed_got Form 0 q top) l
      no-type σ (read_none n f) = expr-failed σ (form_in EH.Members d (first (stack_at s at))) top l (failed_got Form 0 q top) l (set-form d (first (stack_at s at)) ∙ type-none _ _ n) refl
      no-type σ (read-unknown n a b f) = absurd (false≢true (ap is_form (sym f) ∙ sym e ∙ z))
      no-type σ (read_known n k a b f g) = absurd (false≢true (ap is_form (sym f) ∙ sym e ∙ z))

  module _ (z : t ≡ false) (base u : ℕ) (l₁ : List ℕ) (b : base ≡ host_in l ts (info_of l ts y.kind).element) (L : Laid (lay (0 ∷ []) top l) u l₁) (m : Got) (l₂ : List ℕ)
      (M : GivesMembers s l₁ ts scope base d y.next top u m l₂) (r : Got) (l' : List ℕ) where
    abbrev us : Trees Run
    us = first (stack_at s at)

    abbrev us' : Trees Run
    us' = first (stack_at s y.next)

    slot-up : top ≤ u
    slot-up = let G = lay-g (0 ∷ []) top l in let h = L.free in omega (arith, G.up)

    slot-below : Same 0 top l₁ l
    slot-below = let G = lay-g (0 ∷ []) top l in record { at = λ j p q. ap (λ k. get_or k j 0) L.left ∙ G.below j q }

    set_told : (σ : Environment) (bs : List ℕ) → Scene s l ts scope top σ bs → TypeRead σ (type_name_in us) y
        → Told (expr_staged σ (form_in EH.Members d us)) (λ x. x.kind) (λ x. lay_code x.code) top l (set_made l₂ ts y.fault y.kind top m).got (set_made l₂ ts y.fault y.kind top m).list
    unfolding set_made set_node lay_code lay given
    set_told σ bs S (read_none n f) = absurd (true≢false (ap is_form (sym f) ∙ sym e ∙ z))
    set_told σ bs S (read-unknown n a k f) =
        let S₁ = scene-kept {top' = top} S slot-below (omega arith) in
        let T = M.says σ bs S₁ slot-up in
        let E : form_in EH.Members d us ≡ (exprs_in d us' >>= λ es. some (Syntax.members n es)) = set-form d us ∙ type-bind (type_name_in us) n _ a ∙ ap (λ v. exprs_in d v >>= λ es. some (Syntax.members n es)) (rest-is (Y.goes (sym e ∙ z)).1) in
        rw (E, members-unknown σ n k base (exprs_in d us'), f, T.fault-is) (unknown-told (members_staged σ base (exprs_in d us')) m.next m.top l₂ _)
    set_told σ bs S (read_known n k a c f g) =
        let S₁ = scene-kept {top' = top} S slot-below (omega arith) in
        let S₂ = scene-kept {top' = m.top} S₁ (M.keeps slot-up) (let w = slot-up in omega (arith, M.grows)) in
        let h : base ≡ base_of σ.types k = b ∙ ap (λ v. host_in l ts (info_of l ts v).element) g ∙ ap (host_in l ts) (element-told S k) ∙ host-in S (info_at σ.types k).element in
        let T = M.says σ bs S₁ slot-up in
        let E : form_in EH.Members d us ≡ (exprs_in d us' >>= λ es. some (Syntax.members n es)) = set-form d us ∙ type-bind (type_name_in us) n _ a ∙ ap (λ v. exprs_in d v >>= λ es. some (Syntax.members n es)) (rest-is (Y.goes (sym e ∙ z)).1) in
        rw (E, members-staged σ n k c (exprs_in d us'), f, g, ← h)
        (told-one m.fault 0 m.next m.top l₂ (set_node (info_of l₂ ts k) k top m l₂) (members_staged σ base (exprs_in d us')) _ T.fault-is
        (λ cs i. set-node k cs S₂ (T.laid cs i)))
      where
        set-node : (k : ℕ) (cs : Codes) → Scene s l₂ ts scope m.top σ bs → (m.top ≡ (lay_codes cs top u l₁).top) × (l₂ ≡ (lay_codes cs top u l₁).list)
            → Told (or_unfit (given (set? σ.types k) (elaborated k (make_set (info_at σ.types k).low (info_at σ.types k).high cs)))) (λ x. x.kind) (λ x. lay_code x.code) top l (set_node (info_of l₂ ts k) k top m l₂).got (set_node (info_of l₂ ts k) k top m l₂).list
        set-node k cs S₂ C = rw (shape-set S₂ k, low_told S₂ k, high-told S₂ k) (by-set (set? σ.types k))
          where
            by-set : (v : Bool) → Told (or_unfit (given v (elaborated k (make_set (info_at σ.types k).low (info_at σ.types k).high cs)))) (λ x. x.kind) (λ x. lay_code x.code) top l
                (cond v (node_made k m.next (lay (6 ∷ bits (info_at σ.types k).low ∷ bits (info_at σ.types k).high ∷ top ∷ []) m.top l₂)) (failed_made Kind 0 m.next m.top l₂)).got
                (cond v (node_made k m.next (lay (6 ∷ bits (info_at σ.types k).low ∷ bits (info_at σ.types k).high ∷ top ∷ []) m.top l₂)) (failed_made Kind 0 m.next m.top l₂)).list
            by-set true = told-or (some (elaborated k (make_set (info_at σ.types k).low (info_at σ.types k).high cs))) (λ j. none-some (sym j)) (λ x j. rw (← some_inj j) (refl, refl, rw (C.0, C.1, L.free, L.left) refl))
            by-set false = told-or none (λ _. refl) (λ x j. none-some j)

    pub set-right : Makes (set_made l₂ ts y.fault y.kind top m) r l' → GivesForm s l ts scope EH.Members d at top r l'
    set-right k =
        let st = stays-set l₂ ts y.fault y.kind top m in
        let w = slot-up in
        rw (k.given, k.left) (record {
          leaves = record {
            goes = λ h. (Y.goes (sym e ∙ z)).1.around ∙ M.goes (right-lowest y.fault m.fault (set-fault-form l₂ ts y.fault y.kind top m h)) ∙ ap (stack_at s) (sym st.next-is);
            keeps = same-trans (same-trans st.below (M.keeps w) (omega (arith, M.grows))) slot-below (omega arith);
            grows = omega (arith, M.grows, st.up);
          };
          says = λ σ bs S. record { told = set_told σ bs S (type-read σ (type_name_in us) y (Y.says ts top σ bs S)) };
        })

pub ruleset set-form-laws = (set-wrong, set-right)
