-- Code that calls only procedures with numbers below k, each with as many arguments as it has parameters. The laws are in proofs/.
use Rattle.std.specs.Prelude.{◌≡◌, List, map, ℕ, suc, ◌<◌, ℤ, get_or, length}
use Rattle.law.specs.Code as C

unfoldable pub count_codes : C.Codes → ℕ
count_codes C.no_codes = 0
count_codes (C.◌with◌ c cs) = suc (count_codes cs)

-- the frames of bodies by their number
abbrev pub frame_by : List C.BodyCode → ℕ → C.Frame
frame_by bs p = get_or (map (λ (b : C.BodyCode). b.frame) bs) p C.no_frame

module _ (qs : ℕ → C.Frame) (k : ℕ) where
  mutual
    pub data Calls : C.Act → Type 0 where
      assign_ordinal : {n : ℕ} {p : C.Place} {lo hi : ℤ} {c : C.Code} → Calls (C.assign_ordinal n p lo hi c)
      assign_cell : {n : ℕ} {p : C.Place} {c : C.Code} → Calls (C.assign_cell n p c)
      copy_cells : {n k : ℕ} {p q : C.Place} → Calls (C.copy_cells n p q k)
      sequence : {n : ℕ} {bs : C.Acts} → CallsAll bs → Calls (C.sequence n bs)
      branch_on : {n : ℕ} {c : C.Code} {a b : C.Act} → Calls a → Calls b → Calls (C.branch_on n c a b)
      while_loop : {n : ℕ} {c : C.Code} {a : C.Act} → Calls a → Calls (C.while_loop n c a)
      for_loop : {n i : ℕ} {lo hi : ℤ} {x y : C.Code} {a : C.Act} → Calls a → Calls (C.for_loop n i lo hi x y a)
      case_of : {n : ℕ} {c : C.Code} {bs : C.Cases} → CallsCases bs → Calls (C.case_of n c bs)
      call_to : {n p : ℕ} {cs : C.Codes} → p < k → count_codes cs ≡ length (qs p).wants → Calls (C.call_to n p cs)
      raise_with : {n : ℕ} {c : C.Code} → Calls (C.raise_with n c)
      no_act : Calls C.no_act

    pub data CallsAll : C.Acts → Type 0 where
      stop : CallsAll C.stop
      ◌also◌ : {a : C.Act} {bs : C.Acts} → Calls a → CallsAll bs → CallsAll (C.◌also◌ a bs)

    pub data CallsCases : C.Cases → Type 0 where
      else_case : {a : C.Act} → Calls a → CallsCases (C.else_case a)
      no_case : CallsCases C.no_case
      one_case : {ls : List ℤ} {a : C.Act} {bs : C.Cases} → Calls a → CallsCases bs → CallsCases (C.one_case ls a bs)

  infixr 40 ◌also◌
  pub record CallsBody (b : C.BodyCode) : Type 0 where
    pub acts : CallsAll b.acts
    pub handler : CallsAll b.handler
