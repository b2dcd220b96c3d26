-- An accepted script: the marking machine does what the untyped machine does on its code.
use mathlib.Core.Path.{◌≡◌, refl, ap, ◌∙◌, fun_ext}
use mathlib.Core.Bool.{Bool, true, false, cond, ◌&&◌}
use mathlib.Core.List.{List, [], ◌∷◌}
use mathlib.Core.Option.{some}
use Prim.Native.Nat.{ℕ, ◌+◌, ◌*◌}
use lib.IntN.{ℤ, ◌-ℤ◌}
use lib.Dec.{eqb}
use Rattle.law.specs.Base.{Name, pick}
use Rattle.law.specs.Calculate.{Result, ◌>>=◌, compute, compute1, equal_z, fails, is, is_true, nat_of, range_error, stuck, tested}
use Rattle.law.specs.Chair.{condition, eval_code, gather_codes, matches, place_code, run_act, run_acts, run_arguments, run_cases}
use Rattle.law.specs.Code.{Act, Acts, Cases, Code, Codes, Want, assign_ordinal, assign_cell}
use Rattle.law.specs.Elaborate.{Elaborated, Located, assigning, copying, elab_arguments, elab_arms, elab_expr, elab_labels, elab_members, elab_stmt, elab_stmts, elab_target, expects}
use Rattle.law.specs.Machine.{Answer, Procs, State, Store, branch, count_up, one_cell, procedure_at, read_cells, short_circuited, sole, step, store_ordinal, store_whole, with_result}
use Rattle.law.specs.Marking.{TypedValue, mark_arguments, mark_arms, mark_bounds, mark_condition, mark_expr, mark_labels, mark_members, mark_stmt, mark_stmts, mark_store, mark_target, or_stuck, placed_as, require, typed_as, typed_place, typed_value, wanted}
use Rattle.law.specs.Operators.{Fun, Op, Rule, Rule1, function_rule, operator_rule}
use Rattle.law.specs.Script.{Arms, Const, Expr, Exprs, Stmt, Stmts, Target, ◌and◌, ◌next◌, arm, assign, at, begin, binary, call, case, const, done, dot, else_arm, end_of, error_number, for, if_else, members, nil, no_else, raise, read, short_circuit, skip, unary, var, while}
use Rattle.law.specs.Types.{Field, Types, Var, Vars, array?, base_of, field_of, host_of, info_at, ordinal?, set?, size_of}
use Rattle.law_theorems.proofs.Inversion.{none-some, some_inj, both_some, bind-some, given-some, and-true}
use Rattle.law_theorems.proofs.Copying.{wholly-run}

-- ---- values with their kinds

read_step : (Γ : Types) (t : ℕ) (m : Store) (u : Result ℕ)
    → (placed_as t u >>= λ w. typed_as (host_of Γ w.type) (read_cells w.addr (size_of Γ w.type) m)) ≡ typed_as (host_of Γ t) (u >>= λ a. read_cells a (size_of Γ t) m)
read_step Γ t m (is x) = refl
read_step Γ t m (fails z) = refl
read_step Γ t m stuck = refl

lazy-step : (q : Bool) (v w : Result (List ℤ)) → (v >>= λ u. typed_as 1 (short_circuited q (is_true (sole u)) w)) ≡ typed_as 1 (v >>= λ u. short_circuited q (is_true (sole u)) w)
lazy-step q (is x) w = refl
lazy-step q (fails z) w = refl
lazy-step q stuck w = refl

at-step : (Γ : Types) (t k : ℕ) → (array? Γ t && eqb (host_of Γ (info_at Γ t).index) k) ≡ true → (u : Result ℕ) (v : Result (List ℤ))
    → (placed_as t u >>= λ w. typed_as k v >>= λ x.
    require (array? Γ w.type && eqb (host_of Γ (info_at Γ w.type).index) x.kind)
    (placed_as (info_at Γ w.type).element (tested range_error (info_at Γ w.type).low (info_at Γ w.type).high (sole x.cells) >>= λ z.
    is (w.addr + nat_of (z -ℤ (info_at Γ w.type).low) * size_of Γ (info_at Γ w.type).element))))
    ≡ placed_as (info_at Γ t).element (u >>= λ a. v >>= λ x. tested range_error (info_at Γ t).low (info_at Γ t).high (sole x) >>= λ z. is (a + nat_of (z -ℤ (info_at Γ t).low) * size_of Γ (info_at Γ t).element))
at-step Γ t k h (is a) (is x) = rw h
at-step Γ t k h (is a) (fails z) = refl
at-step Γ t k h (is a) stuck = refl
at-step Γ t k h (fails z) v = refl
at-step Γ t k h stuck v = refl

dot-step : (Γ : Types) (t : ℕ) (n : Name) (f : Field) → field_of (info_at Γ t).fields n ≡ some f → (u : Result ℕ)
    → (placed_as t u >>= λ w. or_stuck (field_of (info_at Γ w.type).fields n) λ f. is (typed_place f.type (w.addr + f.offset))) ≡ placed_as f.type (u >>= λ a. is (a + f.offset))
dot-step Γ t n f h (is a) = rw h
dot-step Γ t n f h (fails z) = refl
dot-step Γ t n f h stuck = refl

bin-step : (Γ : Types) (op : Op) (l r : ℕ) (q : Rule) → operator_rule Γ op l r ≡ some q → (m n : Result (List ℤ))
    → (typed_as l m >>= λ x. typed_as r n >>= λ y. or_stuck (operator_rule Γ op x.kind y.kind) λ q. typed_as q.kind (one_cell (compute q.operation (sole x.cells) (sole y.cells))))
    ≡ typed_as q.kind (m >>= λ x. n >>= λ y. one_cell (compute q.operation (sole x) (sole y)))
bin-step Γ op l r q h (is x) (is y) = rw h
bin-step Γ op l r q h (is x) (fails z) = refl
bin-step Γ op l r q h (is x) stuck = refl
bin-step Γ op l r q h (fails z) n = refl
bin-step Γ op l r q h stuck n = refl

fun-step : (Γ : Types) (f : Fun) (l : ℕ) (q : Rule1) → function_rule Γ f l ≡ some q → (m : Result (List ℤ))
    → (typed_as l m >>= λ x. or_stuck (function_rule Γ f x.kind) λ q. typed_as q.kind (one_cell (compute1 q.operation (sole x.cells))))
    ≡ typed_as q.kind (m >>= λ x. one_cell (compute1 q.operation (sole x)))
fun-step Γ f l q h (is x) = rw h
fun-step Γ f l q h (fails z) = refl
fun-step Γ f l q h stuck = refl

want-step : (k l : ℕ) → eqb k l ≡ true → (m : Result (List ℤ)) → (typed_as l m >>= wanted k) ≡ m
want-step k l h (is p) = rw h
want-step k l h (fails z) = refl
want-step k l h stuck = refl

-- ---- answers

after_tag : (n : ℕ) (s : State) (k : ℕ) (v : Result (List ℤ)) (f : TypedValue → Answer) → with_result n s (typed_as k v) f ≡ with_result n s v (λ x. f (typed_value k x))
after_tag n s k (is x) f = refl
after_tag n s k (fails z) f = refl
after_tag n s k stuck f = refl

assign-step : (Γ : Types) (Δ : Vars) (n : ℕ) (t k : ℕ) → eqb (host_of Γ t) k ≡ true → (s : State) (v : Result (List ℤ)) (u : Result ℕ)
    → (with_result n s (typed_as k v) λ x. with_result n s (placed_as t u) λ w. with_result n s (wanted (host_of Γ w.type) x) λ zs. mark_store Γ Δ n w zs s)
    ≡ (with_result n s v λ zs. with_result n s u λ a. mark_store Γ Δ n (typed_place t a) zs s)
assign-step Γ Δ n t k h s (is x) (is a) = rw h
assign-step Γ Δ n t k h s (is x) (fails z) = refl
assign-step Γ Δ n t k h s (is x) stuck = refl
assign-step Γ Δ n t k h s (fails z) u = refl
assign-step Γ Δ n t k h s stuck u = refl

-- both bounds are worked out, then met
for-step : (Γ : Types) (Δ : Vars) (n : ℕ) (x : Var) (k l : ℕ) → eqb (host_of Γ x.type) k ≡ true → eqb (host_of Γ x.type) l ≡ true → ordinal? Γ x.type ≡ true
    → (s : State) (u v : Result (List ℤ)) (f : ℤ → ℤ → Answer)
    → (with_result n s (typed_as k u) λ a. with_result n s (typed_as l v) λ b. with_result n s (mark_bounds Γ Δ x a b) λ p. f p.0 p.1) ≡ (with_result n s u λ a. with_result n s v λ b. f (sole a) (sole b))
unfolding mark_bounds
for-step Γ Δ n x k l hk hl ho s (is a) (is b) f = rw (hk, hl, ho)
for-step Γ Δ n x k l hk hl ho s (is a) (fails z) f = refl
for-step Γ Δ n x k l hk hl ho s (is a) stuck f = refl
for-step Γ Δ n x k l hk hl ho s (fails z) v f = refl
for-step Γ Δ n x k l hk hl ho s stuck v f = refl

-- the code of an assignment, whichever it is
putting-run : (Γ : Types) (Δ : Vars) (ps : Procs) (n : ℕ) (w : Located) (c : Code)
    → run_act ps (assigning Γ Δ n w c) ≡ (λ s. step s λ s'. with_result n s' (eval_code c s'.store) λ zs. with_result n s' (place_code w.place s'.store) λ a. mark_store Γ Δ n (typed_place w.type a) zs s')
unfolding run_act
putting-run Γ Δ ps n w c = go (ordinal? Γ w.type)
  where
    go : (b : Bool) → run_act ps (cond b (assign_ordinal n w.place (info_at Γ w.type).low (info_at Γ w.type).high c) (cond (set? Γ w.type) (assign_cell n w.place c) (copying n w.place c)))
        ≡ (λ s. step s λ s'. with_result n s' (eval_code c s'.store) λ zs. with_result n s' (place_code w.place s'.store) λ a. branch b (store_ordinal n a (info_at Γ w.type).low (info_at Γ w.type).high (sole zs)) (store_whole n a zs) s')
    go true = refl
    go false = wholly-run ps (set? Γ w.type) n w.place c

cond-is : {A : Type 0} (b : Bool) (x y : A) → pick b (is x) (is y) ≡ is (pick b x y)
unfolding pick
cond-is true x y = refl
cond-is false x y = refl

module _ (Γ : Types) (Δ : Vars) where
  mutual
    unfolding elab_expr eval_code mark_expr

    pub sim-e : (e : Expr) (r : Elaborated) → elab_expr Γ Δ e ≡ some r → (m : Store) → mark_expr Γ Δ e m ≡ typed_as r.kind (eval_code r.code m)
    sim-e (const c) r h m = given-some h λ p v. rw (← v, p)
    sim-e (read g) r h m = bind-some h λ w hw e.
        rw (← some_inj e, sim-t g w hw m) (read_step Γ w.type m (place_code w.place m))
    sim-e error_number r h m = rw (← some_inj h)
    sim-e (members t es) r h m = bind-some h λ cs hcs e. given-some e λ p v.
        rw (← v, p, sim-m es t cs hcs m)
    sim-e (end_of q t) r h m = given-some h λ p v. rw (← v, p)
    sim-e (binary op a b) r h m = both_some h λ x y hx hy e. bind-some e λ q hq e'.
        rw (← some_inj e', sim-e a x hx m, sim-e b y hy m) (bin-step Γ op x.kind y.kind q hq (eval_code x.code m) (eval_code y.code m))
    sim-e (short_circuit q a b) r h m = both_some h λ x y hx hy e. given-some e λ p v.
        rw (← v, sim-e a x hx m, sim-e b y hy m, want-step 1 x.kind (and-true (eqb 1 x.kind) (eqb 1 y.kind) p).0, want-step 1 y.kind (and-true (eqb 1 x.kind) (eqb 1 y.kind) p).1) (lazy-step q (eval_code x.code m) (eval_code y.code m))
    sim-e (unary f a) r h m = bind-some h λ x hx e. bind-some e λ q hq e'.
        rw (← some_inj e', sim-e a x hx m) (fun-step Γ f x.kind q hq (eval_code x.code m))

    pub sim-t : (g : Target) (w : Located) → elab_target Γ Δ g ≡ some w → (m : Store) → mark_target Γ Δ g m ≡ placed_as w.type (place_code w.place m)
    sim-t (var i) w h m = bind-some h λ v hv e. rw (← some_inj e, hv)
    sim-t (at g e) w h m = both_some h λ u x hu hx e'. given-some e' λ p v.
        rw (← v, sim-t g u hu m, sim-e e x hx m) (at-step Γ u.type x.kind p (place_code u.place m) (eval_code x.code m))
    sim-t (dot g n) w h m = bind-some h λ u hu e. bind-some e λ f hf e'.
        rw (← some_inj e', sim-t g u hu m) (dot-step Γ u.type n f hf (place_code u.place m))

    pub sim-m : (es : Exprs) (t : ℕ) (cs : Codes) → elab_members Γ Δ (base_of Γ t) es ≡ some cs → (m : Store) → mark_members Γ Δ t es m ≡ gather_codes (info_at Γ t).low (info_at Γ t).high cs m
    sim-m nil t cs h m = rw (← some_inj h)
    sim-m (e and es) t cs h m = both_some h λ x cs' hx hcs e'. given-some e' λ p v.
        rw (← v, sim-e e x hx m, want-step (base_of Γ t) x.kind p, sim-m es t cs' hcs m)

  sim-want : (e : Expr) (k : ℕ) (c : Code) → expects Γ Δ k e ≡ some c → (m : Store) → (mark_expr Γ Δ e m >>= wanted k) ≡ eval_code c m
  unfolding expects
  sim-want e k c h m = bind-some h λ x hx e'. given-some e' λ p v.
      rw (← v, sim-e e x hx m) (want-step k x.kind p (eval_code x.code m))

  sim_check : (n : ℕ) (e : Expr) (c : Code) → expects Γ Δ 1 e ≡ some c → mark_condition Γ Δ n e ≡ condition n c
  unfolding mark_condition condition
  sim_check n e c h = fun_ext λ s. fun_ext λ f. simp (sim-want e 1 c h)

  sim-labels : (k : ℕ) (z : ℤ) (ls : List Const) (zs : List ℤ) → elab_labels Γ Δ k ls ≡ some zs → mark_labels Γ Δ k z ls ≡ is (matches z zs)
  unfolding elab_labels matches mark_labels
  sim-labels k z [] zs h = rw (← some_inj h)
  sim-labels k z (l ∷ ls) zs h = both_some h λ x xs hx hxs e. given-some hx λ p v.
      rw (← some_inj e, p, sim-labels k z ls xs hxs, v) (cond-is (equal_z x z) true (matches z xs))

  -- arguments, tested by what the parameters take. More parameters than arguments, or fewer, elaborate to nothing
  sim-args : (ts : List ℕ) (es : Exprs) (cs : Codes) → elab_arguments Γ Δ ts es ≡ some cs → (ws : List Want) (m : Store) → mark_arguments Γ Δ ws ts es m ≡ run_arguments ws cs m
  unfolding elab_arguments mark_arguments run_arguments
  sim-args [] nil cs h ws m = rw (← some_inj h)
  sim-args [] (e and es) cs h ws m = none-some h
  sim-args (t ∷ ts) nil cs h ws m = none-some h
  sim-args (t ∷ ts) (e and es) cs h [] m = both_some h λ c ds hc hds e'. rw (← some_inj e')
  sim-args (t ∷ ts) (e and es) cs h (w ∷ ws) m = both_some h λ c ds hc hds e'.
      rw (← some_inj e', sim-want e (host_of Γ t) c hc m, sim-args ts es ds hds ws m)

  module _ (ps : Procs) where
    mutual
      unfolding elab_stmt run_act mark_stmt expects

      pub sim-s : (s : Stmt) (c : Act) → elab_stmt Γ Δ s ≡ some c → mark_stmt Γ Δ ps s ≡ run_act ps c
      sim-s (assign n g e) c h = bind-some h λ w hw h'. bind-some h' λ d hd e'. bind-some hd λ x hx e''. given-some e'' λ p v.
          rw (← some_inj e', ← v, putting-run Γ Δ ps n w x.code) (fun_ext λ s. ap (step s) (fun_ext λ s'.
          rw (sim-e e x hx s'.store, sim-t g w hw s'.store) (assign-step Γ Δ n w.type x.kind p s' (eval_code x.code s'.store) (place_code w.place s'.store))))
      sim-s (begin n ss) c h = bind-some h λ bs hbs e. rw (← some_inj e) (fun_ext λ s. rw (sim-b ss bs hbs))
      sim-s (if_else n e a b) c h = both_some h λ d x hd hx h'. bind-some h' λ y hy e'.
          rw (← some_inj e') (fun_ext λ s. rw (sim_check n e d hd, sim-s a x hx, sim-s b y hy))
      sim-s (while n e a) c h = both_some h λ d x hd hx e'.
          rw (← some_inj e') (fun_ext λ s. rw (sim_check n e d hd, sim-s a x hx))
      sim-s (for n i a b s) c h = bind-some h λ w hw g. both_some g λ x y hx hy h'. bind-some h' λ z hz e'. given-some e' λ p v.
          bind-some hx λ x₁ hx₁ ex. given-some ex λ px vx. bind-some hy λ y₁ hy₁ ey. given-some ey λ py vy.
          rw (← v, ← vx, ← vy) (fun_ext λ st. ap (step st) (fun_ext λ s'.
          rw (hw, sim-e a x₁ hx₁ s'.store, sim-e b y₁ hy₁ s'.store, sim-s s z hz)
          (for-step Γ Δ n w x₁.kind y₁.kind px py p s' (eval_code x₁.code s'.store) (eval_code y₁.code s'.store) λ u t. count_up n w.base (info_at Γ w.type).low (info_at Γ w.type).high u t (run_act ps z) s')))
      sim-s (case n e bs) c h = bind-some h λ x hx h'. bind-some h' λ cs hcs e'. given-some e' λ p v.
          rw (← v) (fun_ext λ s. ap (step s) (fun_ext λ s'. rw (sim-e e x hx s'.store) (after_tag n s' x.kind (eval_code x.code s'.store) _
          ∙ rw p (ap (with_result n s' (eval_code x.code s'.store)) (fun_ext λ zs. rw (sim-a bs x.kind cs hcs n (sole zs)))))))
      sim-s (call n p ts es) c h = bind-some h λ cs hcs e. rw (← some_inj e) (fun_ext λ s. ap (step s) (fun_ext λ s'. rw (sim-args ts es cs hcs (procedure_at ps p).frame.wants s'.store)))
      sim-s (raise n e) c h = bind-some h λ d hd e'. rw (← some_inj e') (fun_ext λ s. simp (sim-want e 0 d hd))
      sim-s skip c h = rw (← some_inj h)

      pub sim-b : (ss : Stmts) (c : Acts) → elab_stmts Γ Δ ss ≡ some c → mark_stmts Γ Δ ps ss ≡ run_acts ps c
      sim-b done c h = rw (← some_inj h)
      sim-b (a next bs) c h = both_some h λ x y hx hy e. rw (← some_inj e) (fun_ext λ s. rw (sim-s a x hx, sim-b bs y hy))

      pub sim-a : (bs : Arms) (k : ℕ) (c : Cases) → elab_arms Γ Δ k bs ≡ some c → (n : ℕ) (z : ℤ) → mark_arms Γ Δ ps n k z bs ≡ run_cases ps n z c
      sim-a (else_arm a) k c h n z = bind-some h λ x hx e. rw (← some_inj e) (fun_ext λ s. rw (sim-s a x hx))
      sim-a no_else k c h n z = rw (← some_inj h)
      sim-a (arm ls a bs) k c h n z = both_some h λ zs x hzs hx h'. bind-some h' λ y hy e.
          rw (← some_inj e) (fun_ext λ s. rw (sim-labels k z ls zs hzs, sim-s a x hx, sim-a bs k y hy n z))
