-- Code that was made of an accepted body: in every sound store, each expression's value lies in its kind's range and each place in the store,
-- and each statement leaves a sound store. The predicates speak of code alone, and hold of all its parts.
use mathlib.Core.Path.{◌≡◌, refl}
use mathlib.Core.Bool.{Bool, true}
use mathlib.Core.List.{List, [], ◌∷◌}
use Prim.Native.Nat.{ℕ, ◌+◌, ◌≤◌, ◌<◌}
use native.Mathlib.Omega.{arith}
use lib.IntN.{ℤ, pos}
use lib.Signed.{le_z}
use lib.ListN.{length}
use Rattle.leaf_integers.specs.Integers.{inside, least, most}
use Rattle.leaf_sets.specs.Sets.{lies_in}
use Rattle.law.specs.Calculate.{Result, is}
use Rattle.law.specs.Code as C
use Rattle.law.specs.Chair.{eval_code, place_code, run_act, run_acts, run_arguments}
use Rattle.law.specs.Machine.{Procs, Store, procedure_at, sole, stored}
use Rattle.law.specs.Operators as O
use Rattle.law.specs.Operators.{Operation, Operation1}
use Rattle.law_theorems.proofs.ValuesInRange.{Good, value, failure, Sound}
use Rattle.law_theorems.specs.ValuesInRange.{InInt, Test}
use Rattle.law_theorems.proofs.StoreInRange.{Safely, normally, answer-s, then-s}
use Rattle.law_theorems.proofs.BodiesInRange.{handled-s}
use Rattle.law_theorems.proofs.Inversion.{and-true}
use Rattle.leaf_integers.proofs.Order.{le_z-trans}
use Rattle.leaf_integers.proofs.Ranges.{inside_both, inside_is}
use Rattle.leaf_sets.proofs.Base.{lies-range}
use Rattle.law.specs.Whole.{run_body}

-- ---- values: ordinals of lo to hi, or sets of ordinals of lo to hi. Each is one cell

pub data Kind : Type 0 where
  ordinals sets : ℤ → ℤ → Kind

pub data Has : Kind → List ℤ → Type 0 where
  ordinal : {lo hi z : ℤ} → inside lo hi z ≡ true → InInt z → Has (ordinals lo hi) (z ∷ [])
  set : {lo hi z : ℤ} → lies_in lo hi z ≡ true → Has (sets lo hi) (z ∷ [])

abbrev pub integers : Kind
integers = ordinals least most

abbrev pub booleans : Kind
booleans = ordinals (pos 0) (pos 1)

-- the kinds of operands and result
pub data Works : Operation → Kind → Kind → Kind → Type 0 where
  int_add : Works O.int_add integers integers integers
  int_sub : Works O.int_sub integers integers integers
  int_mul : Works O.int_mul integers integers integers
  int_power : Works O.int_power integers integers integers
  int_div : Works O.int_div integers integers integers
  int_mod : Works O.int_mod integers integers integers
  set_union : {lo hi : ℤ} → Works O.set_union (sets lo hi) (sets lo hi) (sets lo hi)
  set_difference : {lo hi : ℤ} → Works O.set_difference (sets lo hi) (sets lo hi) (sets lo hi)
  set_intersection : {lo hi : ℤ} → Works O.set_intersection (sets lo hi) (sets lo hi) (sets lo hi)
  num_equal : {k : Kind} → Works O.num_equal k k booleans
  num_unequal : {k : Kind} → Works O.num_unequal k k booleans
  num_less : {lo hi : ℤ} → Works O.num_less (ordinals lo hi) (ordinals lo hi) booleans
  num_at_most : {lo hi : ℤ} → Works O.num_at_most (ordinals lo hi) (ordinals lo hi) booleans
  num_greater : {lo hi : ℤ} → Works O.num_greater (ordinals lo hi) (ordinals lo hi) booleans
  num_at_least : {lo hi : ℤ} → Works O.num_at_least (ordinals lo hi) (ordinals lo hi) booleans
  set_within : {lo hi : ℤ} → Works O.set_within (sets lo hi) (sets lo hi) booleans
  set_holds : {lo hi : ℤ} → Works O.set_holds (sets lo hi) (sets lo hi) booleans
  member_of : {i j lo hi : ℤ} → Works O.member_of (ordinals i j) (sets lo hi) booleans
  bool_and : Works O.bool_and booleans booleans booleans
  bool_or : Works O.bool_or booleans booleans booleans

pub data Works1 : Operation1 → Kind → Kind → Type 0 where
  int_negate : Works1 O.int_negate integers integers
  bool_not : Works1 O.bool_not booleans booleans
  int_abs : Works1 O.int_abs integers integers
  int_sqr : Works1 O.int_sqr integers integers
  int_odd : Works1 O.int_odd integers booleans
  ordinal_of : {lo hi : ℤ} → Works1 O.ordinal_of (ordinals lo hi) integers
  pred_in : {lo hi : ℤ} → Works1 (O.pred_in lo hi) (ordinals lo hi) (ordinals lo hi)
  succ_in : {lo hi : ℤ} → Works1 (O.succ_in lo hi) (ordinals lo hi) (ordinals lo hi)
  set_card : {lo hi : ℤ} → Works1 O.set_card (sets lo hi) integers
  set_least : {lo hi i j : ℤ} → Works1 O.set_least (sets lo hi) (ordinals i j)
  set_greatest : {lo hi i j : ℤ} → Works1 O.set_greatest (sets lo hi) (ordinals i j)

-- what a part of the code does in every sound store: an expression's value is of a kind, or an exception's number is an integer; a place of
-- n cells lies in the store; a statement, called procedures doing so, leaves a sound store and is not stuck
pub record Gives (xs : List Test) (c : C.Code) (k : Kind) : Type 0 where
  pub at : (m : Store) → Sound xs m → Good (Has k) (eval_code c m)

pub record Reaches (xs : List Test) (p : C.Place) (n : ℕ) : Type 0 where
  pub at : (m : Store) → Sound xs m → Good (λ a. a + n ≤ length m.values) (place_code p m)

-- procedures with the frames qs, which do so
pub record Called (xs : List Test) (qs : ℕ → C.Frame) (ps : Procs) : Type 0 where
  pub frames : (i : ℕ) → (procedure_at ps i).frame ≡ qs i
  pub runs : (i : ℕ) → Safely xs (procedure_at ps i).run

pub record Leaves (xs : List Test) (qs : ℕ → C.Frame) (a : C.Act) : Type 0 where
  pub at : (ps : Procs) → Called xs qs ps → Safely xs (run_act ps a)

-- arguments that a frame takes leave a sound store when they are put into it
pub record Enters (xs : List Test) (q : C.Frame) (cs : C.Codes) : Type 0 where
  pub at : (m : Store) → Sound xs m → Good (λ zs. Sound xs (stored q.base zs m)) (run_arguments q.wants cs m)

-- a control variable's cell takes any value of lo to hi
pub record Controls (xs : List Test) (a : ℕ) (lo hi : ℤ) : Type 0 where
  pub short : a < length xs
  pub at : (m : Store) → Sound xs m → (z : ℤ) → inside lo hi z ≡ true → Sound xs (stored a (z ∷ []) m)

module _ (xs : List Test) where
  mutual
    -- an expression of one cell
    pub data SafeCode : C.Code → Kind → Type 0 where
      literal : {z lo hi : ℤ} → Gives xs (C.literal z) (ordinals lo hi) → SafeCode (C.literal z) (ordinals lo hi)
      load : {p : C.Place} {k : Kind} → SafePlace p 1 → Gives xs (C.load p 1) k → SafeCode (C.load p 1) k
      last_number : Gives xs C.last_number integers → SafeCode C.last_number integers
      make_set : {lo hi : ℤ} {cs : C.Codes} → SafeCodes cs → Gives xs (C.make_set lo hi cs) (sets lo hi) → SafeCode (C.make_set lo hi cs) (sets lo hi)
      calculate : {o : Operation} {a b : C.Code} {i j k : Kind} → Works o i j k → SafeCode a i → SafeCode b j → Gives xs (C.calculate o a b) k → SafeCode (C.calculate o a b) k
      short_cut : {q : Bool} {a b : C.Code} → SafeCode a booleans → SafeCode b booleans → Gives xs (C.short_cut q a b) booleans → SafeCode (C.short_cut q a b) booleans
      calculate1 : {o : Operation1} {a : C.Code} {i k : Kind} → Works1 o i k → SafeCode a i → Gives xs (C.calculate1 o a) k → SafeCode (C.calculate1 o a) k

    -- a place of n cells
    pub data SafePlace : C.Place → ℕ → Type 0 where
      cell : {a n : ℕ} → Reaches xs (C.cell a) n → SafePlace (C.cell a) n
      index : {p : C.Place} {c : C.Code} {lo hi i j : ℤ} {s n : ℕ} → SafePlace p s → SafeCode c (ordinals i j) → Reaches xs (C.index p c lo hi n) n → SafePlace (C.index p c lo hi n) n
      shift : {p : C.Place} {s k n : ℕ} → SafePlace p s → Reaches xs (C.shift p k) n → SafePlace (C.shift p k) n

    pub data SafeCodes : C.Codes → Type 0 where
      no_codes : SafeCodes C.no_codes
      ◌with◌ : {c : C.Code} {cs : C.Codes} {i j : ℤ} → SafeCode c (ordinals i j) → SafeCodes cs → SafeCodes (C.◌with◌ c cs)

  infixr 40 ◌with◌
  -- arguments of a call, each for what its parameter takes
  pub data SafeArguments : List C.Want → C.Codes → Type 0 where
    no_arguments : SafeArguments [] C.no_codes
    ordinal_argument : {lo hi i j : ℤ} {ws : List C.Want} {c : C.Code} {cs : C.Codes} → SafeCode c (ordinals i j) → SafeArguments ws cs → SafeArguments (C.ranged lo hi ∷ ws) (C.◌with◌ c cs)
    set_argument : {lo hi : ℤ} {ws : List C.Want} {c : C.Code} {cs : C.Codes} → SafeCode c (sets lo hi) → SafeArguments ws cs → SafeArguments (C.any_set ∷ ws) (C.◌with◌ c cs)

-- statements, that call procedures with the frames qs
module _ (xs : List Test) (qs : ℕ → C.Frame) where
  mutual
    pub data SafeAct : C.Act → Type 0 where
      assign_ordinal : {n : ℕ} {p : C.Place} {lo hi i j : ℤ} {c : C.Code} → SafePlace xs p 1 → SafeCode xs c (ordinals i j) → Leaves xs qs (C.assign_ordinal n p lo hi c) → SafeAct (C.assign_ordinal n p lo hi c)
      -- of a set; of an array or a record, whose value can only be another's
      assign_set : {n : ℕ} {p : C.Place} {lo hi : ℤ} {c : C.Code} → SafePlace xs p 1 → SafeCode xs c (sets lo hi) → Leaves xs qs (C.assign_cell n p c) → SafeAct (C.assign_cell n p c)
      copy_cells : {n s : ℕ} {p q : C.Place} → SafePlace xs p s → SafePlace xs q s → Leaves xs qs (C.copy_cells n p q s) → SafeAct (C.copy_cells n p q s)
      sequence : {n : ℕ} {bs : C.Acts} → SafeActs bs → Leaves xs qs (C.sequence n bs) → SafeAct (C.sequence n bs)
      branch_on : {n : ℕ} {c : C.Code} {a b : C.Act} → SafeCode xs c booleans → SafeAct a → SafeAct b → Leaves xs qs (C.branch_on n c a b) → SafeAct (C.branch_on n c a b)
      while_loop : {n : ℕ} {c : C.Code} {a : C.Act} → SafeCode xs c booleans → SafeAct a → Leaves xs qs (C.while_loop n c a) → SafeAct (C.while_loop n c a)
      for_loop : {n a : ℕ} {lo hi i j : ℤ} {x y : C.Code} {b : C.Act} → Controls xs a lo hi → SafeCode xs x (ordinals i j) → SafeCode xs y (ordinals i j) → SafeAct b
          → Leaves xs qs (C.for_loop n a lo hi x y b) → SafeAct (C.for_loop n a lo hi x y b)
      case_of : {n : ℕ} {c : C.Code} {i j : ℤ} {bs : C.Cases} → SafeCode xs c (ordinals i j) → SafeCases bs → Leaves xs qs (C.case_of n c bs) → SafeAct (C.case_of n c bs)
      call_to : {n p : ℕ} {cs : C.Codes} → SafeArguments xs (qs p).wants cs → Enters xs (qs p) cs → Leaves xs qs (C.call_to n p cs) → SafeAct (C.call_to n p cs)
      raise_with : {n : ℕ} {c : C.Code} → SafeCode xs c integers → Leaves xs qs (C.raise_with n c) → SafeAct (C.raise_with n c)
      no_act : Leaves xs qs C.no_act → SafeAct C.no_act

    pub data SafeActs : C.Acts → Type 0 where
      stop : SafeActs C.stop
      ◌also◌ : {a : C.Act} {bs : C.Acts} → SafeAct a → SafeActs bs → SafeActs (C.◌also◌ a bs)

    pub data SafeCases : C.Cases → Type 0 where
      else_case : {a : C.Act} → SafeAct a → SafeCases (C.else_case a)
      no_case : SafeCases C.no_case
      one_case : {ls : List ℤ} {a : C.Act} {bs : C.Cases} → SafeAct a → SafeCases bs → SafeCases (C.one_case ls a bs)

  infixr 40 ◌also◌
  pub record SafeBody (b : C.BodyCode) : Type 0 where
    pub acts : SafeActs b.acts
    pub handler : SafeActs b.handler

-- ---- what the parts do

module _ {xs : List Test} where
  pub gives : {c : C.Code} {k : Kind} → SafeCode xs c k → Gives xs c k
  gives (literal g) = g
  gives (load p g) = g
  gives (last_number g) = g
  gives (make_set cs g) = g
  gives (calculate o a b g) = g
  gives (short_cut a b g) = g
  gives (calculate1 o a g) = g

  pub reaches : {p : C.Place} {n : ℕ} → SafePlace xs p n → Reaches xs p n
  reaches (cell g) = g
  reaches (index p c g) = g
  reaches (shift p g) = g

  pub leaves : {qs : ℕ → C.Frame} {a : C.Act} → SafeAct xs qs a → Leaves xs qs a
  leaves (assign_ordinal p c g) = g
  leaves (assign_set p c g) = g
  leaves (copy_cells p q g) = g
  leaves (sequence bs g) = g
  leaves (branch_on c a b g) = g
  leaves (while_loop c a g) = g
  leaves (for_loop l x y b g) = g
  leaves (case_of c bs g) = g
  leaves (call_to cs e g) = g
  leaves (raise_with c g) = g
  leaves (no_act g) = g

  module _ {qs : ℕ → C.Frame} (ps : Procs) (hp : Called xs qs ps) where
    pub acts-leave : {bs : C.Acts} → SafeActs xs qs bs → Safely xs (run_acts ps bs)
    unfolding run_act
    acts-leave stop = answer-s normally
    acts-leave (a also bs) = then-s ((leaves a).at ps hp) (acts-leave bs)

    pub body-leaves : {b : C.BodyCode} → SafeBody xs qs b → Safely xs (run_body b ps)
    unfolding run_body
    body-leaves {b} h = handled-s b.handles (acts-leave h.acts) (acts-leave h.handler)

-- what comes out of a value with a property
good-is : {A : Type 0} {P : A → Type 0} {v : Result A} → Good P v → (a : A) → v ≡ is a → P a
good-is (value {a = b} p) a e = let q : b ≡ a = cc in rw (← q) p
good-is (failure i) a e = absurd (let z : ◌≡◌ {A = ℕ} 0 1 = cc in omega arith)

module _ {xs : List Test} {m : Store} (h : Sound xs m) where
  pub value-has : {c : C.Code} {k : Kind} → SafeCode xs c k → (zs : List ℤ) → eval_code c m ≡ is zs → Has k zs
  value-has s zs e = good-is ((gives s).at m h) zs e

  pub place_in : {p : C.Place} {n : ℕ} → SafePlace xs p n → (a : ℕ) → place_code p m ≡ is a → a + n ≤ length m.values
  place_in s a e = good-is ((reaches s).at m h) a e

-- any value lies in -2147483648 to 4294967295
pub value-range : {k : Kind} {zs : List ℤ} → Has k zs → inside least (pos 4294967295) (sole zs) ≡ true
value-range (ordinal {z} h i) = inside_both _ _ z (inside_is least most z i.ok).0 (le_z-trans z most _ (inside_is least most z i.ok).1 refl)
value-range (set {lo} {hi} {z} h) = let p = lies-range lo hi z h in inside_both _ _ z (le_z-trans least (pos 0) z refl (and-true (le_z (pos 0) z) _ p).0) (and-true (le_z (pos 0) z) _ p).1
