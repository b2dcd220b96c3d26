-- Code whose numbers are small. The laws are in proofs/.
use Rattle.std.specs.Prelude.{◌≡◌, Bool, true, List, [], ◌∷◌, ℕ, ◌+◌, ◌≤◌, ◌<◌, ℤ, pos, length}
use Rattle.std.specs.Int.Signed.{le_z}
use Rattle.leaf_integers.specs.Integers.{inside}
use Rattle.law.specs.Code as C
use Rattle.law.specs.Machine.{store_cells}
use Rattle.law.specs.Operators as O
use Rattle.law.specs.Operators.{Operation, Operation1}
use Rattle.law_theorems.specs.ValuesInRange.{InInt}
use Rattle.law_theorems.specs.StatementNumbers.{Number}

-- an ordinal of a set
pub record InSet (z : ℤ) : Type 0 where
  pub ok : inside (pos 0) (pos 31) z ≡ true

pub data SizedOperation : Operation1 → Type 0 where
  int_negate : SizedOperation O.int_negate
  bool_not : SizedOperation O.bool_not
  int_abs : SizedOperation O.int_abs
  int_sqr : SizedOperation O.int_sqr
  int_odd : SizedOperation O.int_odd
  ordinal_of : SizedOperation O.ordinal_of
  pred_in : {lo hi : ℤ} → InInt lo → InInt hi → SizedOperation (O.pred_in lo hi)
  succ_in : {lo hi : ℤ} → InInt lo → InInt hi → SizedOperation (O.succ_in lo hi)
  set_card : SizedOperation O.set_card
  set_least : SizedOperation O.set_least
  set_greatest : SizedOperation O.set_greatest

mutual
  pub data SizedCode : C.Code → Type 0 where
    literal : {z : ℤ} → InInt z → SizedCode (C.literal z)
    load : {p : C.Place} {n : ℕ} → SizedPlace p n → SizedCode (C.load p n)
    last_number : SizedCode C.last_number
    make_set : {lo hi : ℤ} {cs : C.Codes} → InSet lo → InSet hi → SizedCodes cs → SizedCode (C.make_set lo hi cs)
    calculate : {o : Operation} {a b : C.Code} → SizedCode a → SizedCode b → SizedCode (C.calculate o a b)
    short_cut : {q : Bool} {a b : C.Code} → SizedCode a → SizedCode b → SizedCode (C.short_cut q a b)
    calculate1 : {o : Operation1} {a : C.Code} → SizedOperation o → SizedCode a → SizedCode (C.calculate1 o a)

  -- a place of n cells: a variable's or a parameter's, those of an array's element, those of a field among the record's s
  pub data SizedPlace : C.Place → ℕ → Type 0 where
    cell : {a n : ℕ} → a + n ≤ store_cells → SizedPlace (C.cell a) n
    index : {p : C.Place} {c : C.Code} {lo hi : ℤ} {s n : ℕ} → SizedPlace p s → SizedCode c → InInt lo → InInt hi → n ≤ 2048 → SizedPlace (C.index p c lo hi n) n
    shift : {p : C.Place} {s k n : ℕ} → SizedPlace p s → s ≤ 2048 → k + n ≤ s → SizedPlace (C.shift p k) n

  pub data SizedCodes : C.Codes → Type 0 where
    no_codes : SizedCodes C.no_codes
    ◌with◌ : {c : C.Code} {cs : C.Codes} → SizedCode c → SizedCodes cs → SizedCodes (C.◌with◌ c cs)

infixr 40 ◌with◌
pub data SizedLabels : List ℤ → Type 0 where
  no_labels : SizedLabels []
  label : {z : ℤ} {zs : List ℤ} → InInt z → SizedLabels zs → SizedLabels (z ∷ zs)

mutual
  pub data SizedAct : C.Act → Type 0 where
    assign_ordinal : {n : ℕ} {p : C.Place} {lo hi : ℤ} {c : C.Code} → Number 4096 n → SizedPlace p 1 → InInt lo → InInt hi → SizedCode c → SizedAct (C.assign_ordinal n p lo hi c)
    assign_cell : {n s : ℕ} {p : C.Place} {c : C.Code} → Number 4096 n → SizedPlace p s → SizedCode c → SizedAct (C.assign_cell n p c)
    copy_cells : {n s k : ℕ} {p q : C.Place} → Number 4096 n → SizedPlace p s → SizedPlace q k → SizedAct (C.copy_cells n p q k)
    sequence : {n : ℕ} {bs : C.Acts} → Number 4096 n → SizedActs bs → SizedAct (C.sequence n bs)
    branch_on : {n : ℕ} {c : C.Code} {a b : C.Act} → Number 4096 n → SizedCode c → SizedAct a → SizedAct b → SizedAct (C.branch_on n c a b)
    while_loop : {n : ℕ} {c : C.Code} {a : C.Act} → Number 4096 n → SizedCode c → SizedAct a → SizedAct (C.while_loop n c a)
    for_loop : {n i : ℕ} {lo hi : ℤ} {x y : C.Code} {a : C.Act} → Number 4096 n → i < store_cells → InInt lo → InInt hi → SizedCode x → SizedCode y → SizedAct a → SizedAct (C.for_loop n i lo hi x y a)
    case_of : {n : ℕ} {c : C.Code} {bs : C.Cases} → Number 4096 n → SizedCode c → SizedCases bs → SizedAct (C.case_of n c bs)
    call_to : {n p : ℕ} {cs : C.Codes} → Number 4096 n → SizedCodes cs → SizedAct (C.call_to n p cs)
    raise_with : {n : ℕ} {c : C.Code} → Number 4096 n → SizedCode c → SizedAct (C.raise_with n c)
    no_act : SizedAct C.no_act

  pub data SizedActs : C.Acts → Type 0 where
    stop : SizedActs C.stop
    ◌also◌ : {a : C.Act} {bs : C.Acts} → SizedAct a → SizedActs bs → SizedActs (C.◌also◌ a bs)

  pub data SizedCases : C.Cases → Type 0 where
    else_case : {a : C.Act} → SizedAct a → SizedCases (C.else_case a)
    no_case : SizedCases C.no_case
    one_case : {ls : List ℤ} {a : C.Act} {bs : C.Cases} → SizedLabels ls → SizedAct a → SizedCases bs → SizedCases (C.one_case ls a bs)

infixr 40 ◌also◌
-- what a parameter takes; an ordinal type has a value
pub data SizedWants : List C.Want → Type 0 where
  no_wants : SizedWants []
  ranged : {lo hi : ℤ} {ws : List C.Want} → InInt lo → InInt hi → le_z lo hi ≡ true → SizedWants ws → SizedWants (C.ranged lo hi ∷ ws)
  any_set : {ws : List C.Want} → SizedWants ws → SizedWants (C.any_set ∷ ws)

pub record SizedFrame (q : C.Frame) : Type 0 where
  pub cells : q.base + length q.wants ≤ store_cells
  pub few : length q.wants ≤ 8
  pub none : q.wants ≡ [] → q.base ≡ 0
  pub wants : SizedWants q.wants

pub record SizedBody (b : C.BodyCode) : Type 0 where
  pub frame : SizedFrame b.frame
  pub acts : SizedActs b.acts
  pub handler : SizedActs b.handler
