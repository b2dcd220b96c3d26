-- Laying statements and bodies: what it does to the working list, and that reading back gives them.
use mathlib.Core.Path.{◌≡◌, refl}
use mathlib.Core.Bool.{Bool, true, false}
use mathlib.Core.List.{List, [], ◌∷◌}
use Prim.Native.Nat.{ℕ, zero, suc, ◌+◌, ◌<◌, ◌≤◌}
use native.Mathlib.Nat.{add-zero}
use native.Mathlib.Omega.{arith}
use borrow.Author.Tests.{ltb-true, ltb-false, ne_eqb}
use lib.Dec.{eqb, ltb}
use lib.IntN.{ℤ}
use lib.ListN.{length, get_or, get_or-eq_default}
use Rattle.law.specs.Elaborate.{copying}
use Rattle.law.specs.Code.{Code, Codes, Place, Act, assign_ordinal, load, assign_cell, copy_cells, sequence, branch_on, while_loop, for_loop, case_of, call_to, raise_with, no_act, Acts, stop, ◌also◌, Cases, else_case, no_case, one_case, BodyCode}
use Rattle.code.specs.Layout.{lay, link, bits, lay_labels, lay_act, lay_acts, lay_cases, flag, lay_frame, lay_body}
use Rattle.code.specs.Readback.{act_op, act_op_unless, act_op_at, integer_at, labels_from, read_labels, act_from, acts_from, arm_from, cases_from, read_act, read_acts, read_cases, frame_of_body, read_body, at_places, all_at_places, cases_at_places, body_at_places}
use Rattle.code.specs.LayoutSize.{size_labels, size_act, size_acts, size_cases, size_body, LabelsFit, label-fits, ActFits, ordinal-fits, cell-fits, copy-fits, sequence-fits, branch_fits, while-fits, for-fits, case-fits, call_fits, raise-fits, ActsFit, also-fit, CasesFit, else-fits, one-case-fits, BodyFits}
use Rattle.code.proofs.LayoutRegions.{Lays, Chains, Has, Linked, lay-pos, lay-l, none-l, end-c, map-l, map-c, ◌next◌, slot-l, link-c}
use Rattle.code.proofs.LayoutCode.{signed-bits, first, CodeAt, CodesAt, PlaceAt, laid_code, laid-codes, laid-place}
use Rattle.code.proofs.LayoutFrame.{FrameAt, laid-frame}
use Rattle.code.specs.LayoutActs.{Begins}

unfoldable reading : Unit {0}
unfolding act_op act_op_unless act_op_at integer_at labels_from read_labels act_from acts_from arm_from cases_from read_act at_places size_labels size_act
reading = tt

-- ---- labels

-- the list holds the labels from the slot s on: if its numbers can hold them, they are read back
pub record LabelsAt (l : List ℕ) (s : ℕ) (zs : List ℤ) : Type 0 where
  pub read : LabelsFit zs → (d : ℕ) → size_labels zs ≤ d → read_labels d l s ≡ zs

labels-end : (l : List ℕ) (s : ℕ) → get_or l s 0 ≡ 0 → (d : ℕ) → read_labels d l s ≡ []
unfolding reading
labels-end l s h zero = refl
labels-end l s h (suc d) = rw h

labels-link : {l : List ℕ} {s u : ℕ} {z : ℤ} {zs : List ℤ} → Linked (bits z ∷ []) s u l → LabelsAt l (u + 1) zs
    → LabelsFit (z ∷ zs) → (d : ℕ) → size_labels (z ∷ zs) ≤ d → read_labels d l s ≡ z ∷ zs
unfolding reading
labels-link k A f zero e = absurd (omega arith)
labels-link {u} {z} k A (label-fits i g) (suc d) e =
    rw (k.from, ne_eqb u 0 (omega (arith, k.parts.later)), first _ _ _ _ k.parts, signed-bits z i, A.read g d (omega arith))

pub laid-labels : (zs : List ℤ) (s t : ℕ) (l : List ℕ) → Chains (size_labels zs) s t l (lay_labels zs s t l) (λ l'. LabelsAt l' s zs)
unfolding lay_labels size_labels lay link
laid-labels [] s t l = map-c end-c (λ l' h. record { read = λ f d e. labels-end l' s h d })
laid-labels (z ∷ zs) s t l =
    map-c (link-c (bits z ∷ []) (none-l {p = 0}) (laid-labels zs _ _ _)) (λ l' h. record { read = labels-link h.1 h.2 })

-- ---- statements

-- the node at p, which is not place 0, is what its first number says
act-op : (n : ℕ) (ns : List ℕ) (p : ℕ) (l : List ℕ) → Has (n ∷ ns) p l → act_op_at l p ≡ act_op n
unfolding act_op_at act_op_unless
act-op n ns p l h = rw (ne_eqb p 0 (omega (arith, h.later)), first n ns p l h)

module _ (bodies : List ℕ) where
  -- the list holds the statement a at p: if its numbers can hold it, the statement is read back, with places for the bodies that it calls
  pub record ActAt (l : List ℕ) (p : ℕ) (a : Act) : Type 0 where
    pub read : ActFits (length bodies) a → (places : List ℕ) → Begins bodies places → (d : ℕ) → size_act a ≤ d → read_act d l p ≡ at_places places a

  -- from the slot s on
  pub record ActsAt (l : List ℕ) (s : ℕ) (bs : Acts) : Type 0 where
    pub read : ActsFit (length bodies) bs → (places : List ℕ) → Begins bodies places → (d : ℕ) → size_acts bs ≤ d → read_acts d l s ≡ all_at_places places bs

  pub record CasesAt (l : List ℕ) (s : ℕ) (cs : Cases) : Type 0 where
    pub read : CasesFit (length bodies) cs → (places : List ℕ) → Begins bodies places → (d : ℕ) → size_cases cs ≤ d → read_cases d l s ≡ cases_at_places places cs

  -- body number k; its node begins with that number
  pub record BodyAt (k : ℕ) (l : List ℕ) (p : ℕ) (b : BodyCode) : Type 0 where
    pub later : 1 ≤ p
    pub inside : p < length l
    pub number : get_or l p 0 ≡ k
    pub read : BodyFits (length bodies) b → (places : List ℕ) → Begins bodies places → (d : ℕ) → size_body b ≤ d → read_body d l p ≡ body_at_places places b

  module _ {l : List ℕ} {p : ℕ} where
    read-ordinal : {n x y : ℕ} {a : Place} {lo hi : ℤ} {c : Code} → Has (43 ∷ n ∷ x ∷ y ∷ bits lo ∷ bits hi ∷ []) p l → PlaceAt l x a → CodeAt l y c
        → ActFits (length bodies) (assign_ordinal n a lo hi c) → (d : ℕ) → size_act (assign_ordinal n a lo hi c) ≤ d → read_act d l p ≡ assign_ordinal n a lo hi c
    unfolding reading
    read-ordinal h A C f zero e = absurd (omega arith)
    read-ordinal {lo} {hi} h A C (ordinal-fits f i j g) (suc d) e =
        rw (act-op _ _ _ _ h, h.at 1 (omega arith), h.at 2 (omega arith), h.at 3 (omega arith), h.at 4 (omega arith), h.at 5 (omega arith), signed-bits lo i, signed-bits hi j, A.read f d (omega arith), C.read g d (omega arith))

    read_set : {n x y : ℕ} {a : Place} {c : Code} → Has (44 ∷ n ∷ x ∷ y ∷ []) p l → PlaceAt l x a → CodeAt l y c
        → ActFits (length bodies) (assign_cell n a c) → (d : ℕ) → size_act (assign_cell n a c) ≤ d → read_act d l p ≡ assign_cell n a c
    unfolding reading
    read_set h A C f zero e = absurd (omega arith)
    read_set h A C (cell-fits f g) (suc d) e =
        rw (act-op _ _ _ _ h, h.at 1 (omega arith), h.at 2 (omega arith), h.at 3 (omega arith), A.read f d (omega arith), C.read g d (omega arith))

    read-copy : {n x y k : ℕ} {a q : Place} → Has (52 ∷ n ∷ x ∷ y ∷ []) p l → PlaceAt l x a → CodeAt l y (load q k)
        → ActFits (length bodies) (copy_cells n a q k) → (d : ℕ) → size_act (copy_cells n a q k) ≤ d → read_act d l p ≡ copy_cells n a q k
    unfolding reading copying
    read-copy h A C f zero e = absurd (omega arith)
    read-copy h A C (copy-fits f g) (suc d) e =
        rw (act-op _ _ _ _ h, h.at 1 (omega arith), h.at 2 (omega arith), h.at 3 (omega arith), A.read f d (omega arith), C.read g d (omega arith))

    read-raise : {n x : ℕ} {c : Code} → Has (51 ∷ n ∷ x ∷ []) p l → CodeAt l x c
        → ActFits (length bodies) (raise_with n c) → (d : ℕ) → size_act (raise_with n c) ≤ d → read_act d l p ≡ raise_with n c
    unfolding reading
    read-raise h C f zero e = absurd (omega arith)
    read-raise h C (raise-fits f) (suc d) e = rw (act-op _ _ _ _ h, h.at 1 (omega arith), h.at 2 (omega arith), C.read f d (omega arith))

    module _ (places : List ℕ) (N : Begins bodies places) where
      read-sequence : {n s : ℕ} {bs : Acts} → Has (45 ∷ n ∷ s ∷ []) p l → ActsAt l s bs
          → ActFits (length bodies) (sequence n bs) → (d : ℕ) → size_act (sequence n bs) ≤ d → read_act d l p ≡ at_places places (sequence n bs)
      unfolding reading
      read-sequence h A f zero e = absurd (omega arith)
      read-sequence h A (sequence-fits f) (suc d) e = rw (act-op _ _ _ _ h, h.at 1 (omega arith), h.at 2 (omega arith), A.read f places N d (omega arith))

      read-branch : {n x y z : ℕ} {c : Code} {a b : Act} → Has (46 ∷ n ∷ x ∷ y ∷ z ∷ []) p l → CodeAt l x c → ActAt l y a → ActAt l z b
          → ActFits (length bodies) (branch_on n c a b) → (d : ℕ) → size_act (branch_on n c a b) ≤ d → read_act d l p ≡ at_places places (branch_on n c a b)
      unfolding reading
      read-branch h C A B f zero e = absurd (omega arith)
      read-branch h C A B (branch_fits f g k) (suc d) e =
          rw (act-op _ _ _ _ h, h.at 1 (omega arith), h.at 2 (omega arith), h.at 3 (omega arith), h.at 4 (omega arith), C.read f d (omega arith), A.read g places N d (omega arith), B.read k places N d (omega arith))

      read-while : {n x y : ℕ} {c : Code} {a : Act} → Has (47 ∷ n ∷ x ∷ y ∷ []) p l → CodeAt l x c → ActAt l y a
          → ActFits (length bodies) (while_loop n c a) → (d : ℕ) → size_act (while_loop n c a) ≤ d → read_act d l p ≡ at_places places (while_loop n c a)
      unfolding reading
      read-while h C A f zero e = absurd (omega arith)
      read-while h C A (while-fits f g) (suc d) e =
          rw (act-op _ _ _ _ h, h.at 1 (omega arith), h.at 2 (omega arith), h.at 3 (omega arith), C.read f d (omega arith), A.read g places N d (omega arith))

      read-for : {n i x y z : ℕ} {lo hi : ℤ} {c b : Code} {a : Act} → Has (48 ∷ n ∷ i ∷ bits lo ∷ bits hi ∷ x ∷ y ∷ z ∷ []) p l → CodeAt l x c → CodeAt l y b → ActAt l z a
          → ActFits (length bodies) (for_loop n i lo hi c b a) → (d : ℕ) → size_act (for_loop n i lo hi c b a) ≤ d → read_act d l p ≡ at_places places (for_loop n i lo hi c b a)
      unfolding reading
      read-for h C B A f zero e = absurd (omega arith)
      read-for {lo} {hi} h C B A (for-fits i j f g k) (suc d) e =
          rw (act-op _ _ _ _ h, h.at 1 (omega arith), h.at 2 (omega arith), h.at 3 (omega arith), h.at 4 (omega arith), h.at 5 (omega arith), h.at 6 (omega arith), h.at 7 (omega arith), signed-bits lo i, signed-bits hi j, C.read f d (omega arith), B.read g d (omega arith), A.read k places N d (omega arith))

      read-case : {n x s : ℕ} {c : Code} {cs : Cases} → Has (49 ∷ n ∷ x ∷ s ∷ []) p l → CodeAt l x c → CasesAt l s cs
          → ActFits (length bodies) (case_of n c cs) → (d : ℕ) → size_act (case_of n c cs) ≤ d → read_act d l p ≡ at_places places (case_of n c cs)
      unfolding reading
      read-case h C A f zero e = absurd (omega arith)
      read-case h C A (case-fits f g) (suc d) e =
          rw (act-op _ _ _ _ h, h.at 1 (omega arith), h.at 2 (omega arith), h.at 3 (omega arith), C.read f d (omega arith), A.read g places N d (omega arith))

      read-call : {n k s : ℕ} {cs : Codes} → Has (50 ∷ n ∷ get_or bodies k 0 ∷ s ∷ []) p l → CodesAt l s cs
          → ActFits (length bodies) (call_to n k cs) → (d : ℕ) → size_act (call_to n k cs) ≤ d → read_act d l p ≡ at_places places (call_to n k cs)
      unfolding reading
      read-call h A f zero e = absurd (omega arith)
      read-call {k} h A (call_fits i f) (suc d) e = rw (act-op _ _ _ _ h, h.at 1 (omega arith), h.at 2 (omega arith), h.at 3 (omega arith), N.at k i, A.read f d (omega arith))

  -- place 0
  read_none : (l : List ℕ) (d : ℕ) → read_act d l 0 ≡ no_act
  unfolding reading
  read_none l zero = refl
  read_none l (suc d) = refl

  -- chains
  acts-end : (l : List ℕ) (s : ℕ) → get_or l s 0 ≡ 0 → (d : ℕ) → read_acts d l s ≡ stop
  unfolding reading
  acts-end l s h zero = refl
  acts-end l s h (suc d) = rw h

  acts-link : {l : List ℕ} {s u x : ℕ} {a : Act} {bs : Acts} → ActAt l x a → Linked (x ∷ []) s u l → ActsAt l (u + 1) bs
      → ActsFit (length bodies) (a also bs) → (places : List ℕ) → Begins bodies places → (d : ℕ) → size_acts (a also bs) ≤ d → read_acts d l s ≡ all_at_places places (a also bs)
  unfolding reading
  acts-link A k B f places N zero e = absurd (omega arith)
  acts-link {u} A k B (also-fit f g) places N (suc d) e =
      rw (k.from, ne_eqb u 0 (omega (arith, k.parts.later)), first _ _ _ _ k.parts, A.read f places N d (omega arith), B.read g places N d (omega arith))

  cases_end : (l : List ℕ) (s : ℕ) → get_or l s 0 ≡ 0 → (d : ℕ) → read_cases d l s ≡ no_case
  unfolding reading
  cases_end l s h zero = refl
  cases_end l s h (suc d) = rw h

  cases-else : {l : List ℕ} {s u x : ℕ} {a : Act} → ActAt l x a → Linked (0 ∷ x ∷ []) s u l
      → CasesFit (length bodies) (else_case a) → (places : List ℕ) → Begins bodies places → (d : ℕ) → size_cases (else_case a) ≤ d → read_cases d l s ≡ cases_at_places places (else_case a)
  unfolding reading
  cases-else A k f places N zero e = absurd (omega arith)
  cases-else {u} A k (else-fits f) places N (suc d) e =
      rw (k.from, ne_eqb u 0 (omega (arith, k.parts.later)), first _ _ _ _ k.parts, k.parts.at 1 (omega arith), A.read f places N d (omega arith))

  cases-link : {l : List ℕ} {s u h x : ℕ} {ls : List ℤ} {a : Act} {cs : Cases} → 1 ≤ h → LabelsAt l h ls → ActAt l x a → Linked (h ∷ x ∷ []) s u l → CasesAt l (u + 2) cs
      → CasesFit (length bodies) (one_case ls a cs) → (places : List ℕ) → Begins bodies places → (d : ℕ) → size_cases (one_case ls a cs) ≤ d → read_cases d l s ≡ cases_at_places places (one_case ls a cs)
  unfolding reading
  cases-link i L A k C f places N zero e = absurd (omega arith)
  cases-link {u} {h} i L A k C (one-case-fits f g j) places N (suc d) e =
      rw (k.from, ne_eqb u 0 (omega (arith, k.parts.later)), first _ _ _ _ k.parts, ne_eqb h 0 (omega arith), first _ _ _ _ k.parts, k.parts.at 1 (omega arith), L.read f d (omega arith), A.read g places N d (omega arith), C.read j places N d (omega arith))

  -- ---- the layout

  mutual
    unfolding lay_act size_act at_places lay link

    pub laid-act : (a : Act) (t : ℕ) (l : List ℕ) → Lays (size_act a) t l (lay_act bodies a t l) (λ l'. ActAt l' (lay_act bodies a t l).pos a)
    laid-act (assign_ordinal n p lo hi c) t l =
        map-l (laid-place p t l next laid_code c _ _ next lay-l _ _ _) (λ l' h. record { read = λ f P N. read-ordinal h.1 h.0.0 h.0.1 f })
    laid-act (assign_cell n p c) t l =
        map-l (laid-place p t l next laid_code c _ _ next lay-l _ _ _) (λ l' h. record { read = λ f P N. read_set h.1 h.0.0 h.0.1 f })
    laid-act (copy_cells n p q k) t l =
        map-l (laid-place p t l next laid_code (load q k) _ _ next lay-l _ _ _) (λ l' h. record { read = λ f P N. read-copy h.1 h.0.0 h.0.1 f })
    laid-act (sequence n bs) t l =
        map-l (slot-l (laid-acts bs t _ _) next lay-l _ _ _) (λ l' h. record { read = λ f P N. read-sequence P N h.1 h.0.1 f })
    laid-act (branch_on n c a b) t l =
        map-l (laid_code c t l next laid-act a _ _ next laid-act b _ _ next lay-l _ _ _)
        (λ l' h. record { read = λ f P N. read-branch P N h.1 h.0.0.0 h.0.0.1 h.0.1 f })
    laid-act (while_loop n c a) t l =
        map-l (laid_code c t l next laid-act a _ _ next lay-l _ _ _) (λ l' h. record { read = λ f P N. read-while P N h.1 h.0.0 h.0.1 f })
    laid-act (for_loop n i lo hi c d a) t l =
        map-l (laid_code c t l next laid_code d _ _ next laid-act a _ _ next lay-l _ _ _)
        (λ l' h. record { read = λ f P N. read-for P N h.1 h.0.0.0 h.0.0.1 h.0.1 f })
    laid-act (case_of n c cs) t l =
        map-l (laid_code c t l next slot-l (laid-cases cs _ _ _) next lay-l _ _ _) (λ l' h. record { read = λ f P N. read-case P N h.1 h.0.0 h.0.1.1 f })
    laid-act (call_to n p cs) t l =
        map-l (slot-l (laid-codes cs t _ _) next lay-l _ _ _) (λ l' h. record { read = λ f P N. read-call P N h.1 h.0.1 f })
    laid-act (raise_with n c) t l = map-l (laid_code c t l next lay-l _ _ _) (λ l' h. record { read = λ f P N. read-raise h.1 h.0 f })
    laid-act no_act t l = map-l (none-l {p = 0}) (λ l' h. record { read = λ f P N d e. read_none l' d })

    pub laid-acts : (bs : Acts) (s t : ℕ) (l : List ℕ) → Chains (size_acts bs) s t l (lay_acts bodies bs s t l) (λ l'. ActsAt l' s bs)
    laid-acts stop s t l = map-c end-c (λ l' h. record { read = λ f P N d e. acts-end l' s h d })
    laid-acts (a also bs) s t l =
        map-c (link-c ((lay_act bodies a t l).pos ∷ []) (laid-act a t l) (laid-acts bs _ _ _)) (λ l' h. record { read = acts-link h.0 h.1 h.2 })

    pub laid-cases : (cs : Cases) (s t : ℕ) (l : List ℕ) → Chains (size_cases cs) s t l (lay_cases bodies cs s t l) (λ l'. CasesAt l' s cs)
    laid-cases (else_case a) s t l =
        rw (← add-zero (size_act a + 3))
        (map-c (link-c (0 ∷ (lay_act bodies a t l).pos ∷ []) (laid-act a t l) end-c) (λ l' h. record { read = cases-else h.0 h.1 }))
    laid-cases no_case s t l = map-c end-c (λ l' h. record { read = λ f P N d e. cases_end l' s h d })
    laid-cases (one_case ls a cs) s t l =
        map-c (link-c (t ∷ _ ∷ []) (slot-l (laid-labels ls t _ _) next laid-act a _ _) (laid-cases cs _ _ _))
        (λ l' h. record { read = cases-link h.0.0.0 h.0.0.1 h.0.1 h.1 h.2 })

  -- ---- bodies

  -- the list reaches to a node whose second number is not 0
  has-inside : {n s p : ℕ} {ns l : List ℕ} → Has (n ∷ s ∷ ns) p l → 1 ≤ s → p < length l
  has-inside {s} {p} {l} h i = go (ltb p (length l)) refl
    where
      go : (b : Bool) → ltb p (length l) ≡ b → p < length l
      go true e = ltb-true p (length l) e
      go false e =
          let z : get_or l (p + 1) 0 ≡ 0 = get_or-eq_default l 0 (omega (arith, ltb-false p (length l) e)) in
          absurd (omega (arith, z, h.at 1 (omega arith)))

  flag-back : (q : Bool) → eqb (flag q) 1 ≡ q
  unfolding flag
  flag-back true = refl
  flag-back false = refl

  read-body : {l : List ℕ} {p k s h q : ℕ} (b : BodyCode) → Has (k ∷ s ∷ flag b.handles ∷ h ∷ q ∷ []) p l → FrameAt l q b.frame → ActsAt l s b.acts → ActsAt l h b.handler
      → BodyFits (length bodies) b → (places : List ℕ) → Begins bodies places → (d : ℕ) → size_body b ≤ d → read_body d l p ≡ body_at_places places b
  unfolding read_body frame_of_body body_at_places size_body
  read-body b n F A H f places N d e =
      rw (n.at 4 (omega arith), F.read f.frame-fits, n.at 1 (omega arith), n.at 2 (omega arith), n.at 3 (omega arith), flag-back b.handles, A.read f.acts-fit places N d (omega arith), H.read f.handler-fits places N d (omega arith))

  pub laid-body : (k : ℕ) (b : BodyCode) (t : ℕ) (l : List ℕ) → Lays (size_body b) t l (lay_body bodies k b t l) (λ l'. BodyAt k l' (lay_body bodies k b t l).pos b)
  unfolding lay_body size_body lay link
  laid-body k b t l =
      let f = lay_frame b.frame t l in
      let s = lay (0 ∷ []) f.top f.list in
      let m = lay_acts bodies b.acts f.top s.top s.list in
      map-l (laid-frame b.frame t l next slot-l (laid-acts b.acts _ _ _) next slot-l (laid-acts b.handler _ _ _) next lay-l (k ∷ f.top ∷ flag b.handles ∷ m.top ∷ f.pos ∷ []) _ _)
      (λ l' h. record {
        later = h.1.later;
        inside = has-inside h.1 h.0.0.1.0;
        number = first _ _ _ _ h.1;
        read = read-body b h.1 h.0.0.0 h.0.0.1.1 h.0.1.1;
      })

  -- ---- where it stands: at or below the free place

  pub act-pos : (a : Act) (t : ℕ) (l : List ℕ) → (lay_act bodies a t l).pos ≤ (lay_act bodies a t l).top
  unfolding lay_act
  act-pos (assign_ordinal n p lo hi c) t l = lay-pos _ _ _
  act-pos (assign_cell n p c) t l = lay-pos _ _ _
  act-pos (copy_cells n p q k) t l = lay-pos _ _ _
  act-pos (sequence n bs) t l = lay-pos _ _ _
  act-pos (branch_on n c a b) t l = lay-pos _ _ _
  act-pos (while_loop n c a) t l = lay-pos _ _ _
  act-pos (for_loop n i lo hi c d a) t l = lay-pos _ _ _
  act-pos (case_of n c cs) t l = lay-pos _ _ _
  act-pos (call_to n p cs) t l = lay-pos _ _ _
  act-pos (raise_with n c) t l = lay-pos _ _ _
  act-pos no_act t l = omega arith

  pub body-pos : (k : ℕ) (b : BodyCode) (t : ℕ) (l : List ℕ) → (lay_body bodies k b t l).pos ≤ (lay_body bodies k b t l).top
  unfolding lay_body
  body-pos k b t l = lay-pos _ _ _
