-- The bodies stand on after a line: what lies below the free place stays, and the types that a body sees are the first of all.
use mathlib.Core.Path.{◌≡◌, refl, sym, ap, ◌∙◌, subst}
use mathlib.Core.Bool.{Bool, false}
use mathlib.Core.List.{List, [], ◌∷◌, ◌++◌}
use mathlib.Core.Logic.{◌⊎◌, inl, inr}
use Prim.Native.Nat.{ℕ, zero, suc, ◌+◌, ◌-◌, ◌<◌, ◌≤◌}
use native.Mathlib.Omega.{arith}
use borrow.Author.Tests.{ne_eqb}
use lib.ListN.{length, get_or, take, get_or-eq_default}
use Rattle.leaf_integers.proofs.Order.{le-or-lt}
use Rattle.law.specs.Code.{Frame, no_frame}
use Rattle.law.specs.Environment.{Declared, Environment, PlacedBody}
use Rattle.code.specs.Layout.{bits}
use Rattle.law.specs.Types.{Types, facts, info_at, undeclared}
use Rattle.code.specs.LayoutRegions.{Same}
use Rattle.law_theorems.specs.LinesKeep.{Extends, frames_of}
use Rattle.table_scope.specs.declared.Scope.{Scope}
use Rattle.table_scope.specs.Descriptions.{shape_number, no_info, info_of, fields_at, Tells, EndsBelow}
use Rattle.table_scope.specs.Frames.{frame_at, frame_in}
use Rattle.table_scope.specs.Scene.{Scene}
use Rattle.table_scope.proofs.Kept.{scene-kept}
use Rattle.table_bodies.specs.Table.{clip, types_of, AllStand}
use Rattle.table_bodies.proofs.Calling.{length-snoc, at_before, at_last}
use Rattle.table_bodies.proofs.Clipping.{clip-low, clip-high}
use Rattle.rule_judge_loose.specs.Standing.{CallKept, BodyKept, NodeKept, AllKept, LooseStanding, procs_of}
use Rattle.rule_known.specs.declared.Known.{Known}
use Rattle.rule_body_notes.proofs.Notes.{SameLine}

-- ---- types

pub extends-self : (Γ : Types) → Extends Γ Γ
extends-self Γ = record { keeps = λ t h. refl; longer = omega arith }

pub extends-on : {Γ Γ' Γ'' : Types} → Extends Γ Γ' → Extends Γ' Γ'' → Extends Γ Γ''
extends-on X Y = record { keeps = λ t h. Y.keeps t (omega (arith, X.longer)) ∙ X.keeps t h; longer = omega (arith, X.longer, Y.longer) }

nothing_tells : (s l : List ℕ) → Tells s l no_info (facts undeclared)
unfolding no_info shape_number bits fields_at
nothing_tells s l = record { shape_is = refl; host-is = refl; low-is = refl; high_is = refl; size_is = λ t. refl; index_is = refl; element-is = refl; fields-are = refl }

nothing_ends : (top : ℕ) → EndsBelow top no_info
unfolding no_info
nothing_ends top = record { end_below = λ e. absurd (omega arith); within = omega arith }

module _ (l ts : List ℕ) (n k : ℕ) where
  clipped-low : k < n → info_of l (clip n ts) k ≡ info_of l ts k
  unfolding info_of
  clipped-low h = rw (← clip-low n ts k h) refl

  clipped-high : 2 ≤ n → n ≤ k → info_of l (clip n ts) k ≡ no_info
  unfolding info_of
  clipped-high t h = rw (ne_eqb k 0 (λ e. omega arith), ne_eqb k 1 (λ e. omega arith), ← clip-high n ts k h) refl

-- the list l and the places ts tell the types Γ, and their descriptions end below the free place
pub record Telling (s l ts : List ℕ) (top : ℕ) (Γ : Types) : Type 0 where
  pub tells : (k : ℕ) → Tells s l (info_of l ts k) (info_at Γ k)
  pub ends : (k : ℕ) → EndsBelow top (info_of l ts k)

pub scene-tells : {s l ts : List ℕ} {scope : Scope} {top : ℕ} {σ : Environment} {bs : List ℕ} → Scene s l ts scope top σ bs → Telling s l ts top σ.types
scene-tells S = record { tells = S.types; ends = S.described }

module _ {s l ts : List ℕ} {top : ℕ} {Γ : Types} (T : Telling s l ts top Γ) (Γ₀ : Types) (X : Extends Γ₀ Γ) (two : 2 ≤ length Γ₀) (n : ℕ) (few : n ≡ length Γ₀) where
  clip-tells : (k : ℕ) → Tells s l (info_of l (clip n ts) k) (info_at Γ₀ k)
  clip-tells k = go (le-or-lt n k)
    where
      go : (n ≤ k) ⊎ (k < n) → Tells s l (info_of l (clip n ts) k) (info_at Γ₀ k)
      go (inl h) =
          let g : length Γ₀ ≤ k = omega arith in
          let d : info_at Γ₀ k ≡ facts undeclared = ap facts (get_or-eq_default Γ₀ undeclared g) in
          rw (clipped-high l ts n k (omega arith) h, d) (nothing_tells s l)
      go (inr h) = rw (clipped-low l ts n k h, ← X.keeps k (omega arith)) (T.tells k)

  clip-ends : (k : ℕ) → EndsBelow top (info_of l (clip n ts) k)
  clip-ends k = go (le-or-lt n k)
    where
      go : (n ≤ k) ⊎ (k < n) → EndsBelow top (info_of l (clip n ts) k)
      go (inl h) = rw (clipped-high l ts n k (omega arith) h) (nothing_ends top)
      go (inr h) = rw (clipped-low l ts n k h) (T.ends k)

-- a scene of the list l₀ is one of l for the types that it knows
pub clipped-scene : {s l₀ ts₀ l ts : List ℕ} {scope : Scope} {top₀ top : ℕ} {σ : Environment} {bs : List ℕ} {Γ : Types} → Scene s l₀ ts₀ scope top₀ σ bs → Same 0 top₀ l l₀ → top₀ ≤ top
    → Telling s l ts top Γ → Extends σ.types Γ → 2 ≤ length σ.types → (n : ℕ) → n ≡ length σ.types → Scene s l (clip n ts) scope top σ bs
clipped-scene {top = top} {σ = σ} S E h T X two n few =
    let K = scene-kept {top' = top} S E h in
    record {
      names = K.names;
      below = K.below;
      types = clip-tells T σ.types X two n few;
      described = clip-ends T σ.types X two n few;
      table = K.table;
      fair = K.fair;
      fieldless = K.fieldless;
      cells = K.cells;
      above = K.above;
      once = K.once;
      frames = K.frames;
    }

-- ---- bodies

same-lower : {t u : ℕ} {l l' : List ℕ} → Same 0 u l' l → t ≤ u → Same 0 t l' l
same-lower E h = record { at = λ i a b. E.at i a (omega arith) }

pub node-on : {l l₀ : List ℕ} {top₀ top p q : ℕ} {f : Frame} → Same 0 top₀ l l₀ → top₀ ≤ top → NodeKept l₀ top₀ p q f → NodeKept l top p q f
unfolding frame_in frame_at
node-on {l} {l₀} {top₀} {top} {p} {q} {f} E up N =
    let a : get_or l p 0 ≡ get_or l₀ p 0 = E.at p (omega arith) (omega (arith, N.low)) in
    let b : get_or l (p + 4) 0 ≡ get_or l₀ (p + 4) 0 = E.at (p + 4) (omega arith) (omega (arith, N.low)) in
    let c : get_or l (get_or l₀ (p + 4) 0) 0 ≡ get_or l₀ (get_or l₀ (p + 4) 0) 0 = E.at (get_or l₀ (p + 4) 0) (omega arith) (omega (arith, N.frame-low)) in
    let d : get_or l (get_or l₀ (p + 4) 0 + 1) 0 ≡ get_or l₀ (get_or l₀ (p + 4) 0 + 1) 0 = E.at (get_or l₀ (p + 4) 0 + 1) (omega arith) (omega (arith, N.frame-low)) in
    let e : frame_in l p ≡ frame_in l₀ p = rw (b, d, c) refl in
    record {
      node = record { number_is = a ∙ N.node.number_is; base-is = rw e N.node.base-is; count-is = rw e N.node.count-is };
      low = omega (arith, N.low);
      frame-low = rw b (omega (arith, N.frame-low));
    }

module _ {s l₀ ts₀ tb₀ l ts tb bs : List ℕ} {top₀ top : ℕ} {Γ₀ Γ : Types} {qs : List Frame} (E : Same 0 top₀ l l₀) (up : top₀ ≤ top) (X : Extends Γ₀ Γ) (T : Telling s l ts top Γ) where
  kept_on : {pb : PlacedBody} {q : ℕ} → BodyKept s l₀ ts₀ tb₀ bs top₀ Γ₀ qs pb q → SameLine tb₀ tb q → BodyKept s l ts tb bs top Γ qs pb q
  kept_on {pb} {q} B R =
      let Y : Extends pb.types Γ = extends-on B.extends X in
      let A = B.stands in
      record {
        stands = record {
          env = A.env;
          top = top;
          form = A.form;
          last = A.last;
          scene = rw (R.types_are, R.scope-is)
              (clipped-scene A.scene (same-lower E B.low) (omega (arith, B.low)) T (rw (← A.types_are) Y) (rw (← A.types_are) B.two) (types_of tb₀ q) (rw (← A.types_are) B.types_are));
          before = A.before;
          reads = rw (R.stmts-are, R.offset-is) A.reads;
          names = A.names;
          types_are = A.types_are;
          vars-are = A.vars-are;
          few-types = rw R.types_are A.few-types;
          small = A.small;
          few = A.few;
        };
        low = omega arith;
        types_are = R.types_are ∙ B.types_are;
        two = B.two;
        extends = Y;
        calls = B.calls;
      }

module _ {s l₀ ts₀ tb₀ l ts tb bs : List ℕ} {top₀ top : ℕ} {Γ₀ Γ : Types} (E : Same 0 top₀ l l₀) (up : top₀ ≤ top) (X : Extends Γ₀ Γ) (T : Telling s l ts top Γ) where
  pub all-on : {pbs : List PlacedBody} {n : ℕ} → AllKept s l₀ ts₀ tb₀ bs top₀ Γ₀ pbs n → ((q : ℕ) → q < length pbs → SameLine tb₀ tb q) → AllKept s l ts tb bs top Γ pbs n
  all-on A R = record {
    each = λ none q h. kept_on E up X T (A.each none q h) (R q h);
    nodes = λ q h. node-on E up (A.nodes q h);
    procs = A.procs;
    most = A.most;
  }

-- ---- one body more

take_more : (bs : List ℕ) (b q : ℕ) → q ≤ length bs → take q (bs ++ b ∷ []) ≡ take q bs
take_more bs b zero h = refl
take_more [] b (suc q) h = absurd (omega (arith, h))
take_more (x ∷ bs) b (suc q) h = ap (λ (r : List ℕ). x ∷ r) (take_more bs b q (omega (arith, h)))

frames-more : (pbs : List PlacedBody) (pb : PlacedBody) → frames_of (pbs ++ pb ∷ []) ≡ frames_of pbs ++ (pb.frame ∷ [])
frames-more [] pb = refl
frames-more (x ∷ pbs) pb = ap (λ (r : List Frame). x.frame ∷ r) (frames-more pbs pb)

frames-long : (pbs : List PlacedBody) → length (frames_of pbs) ≡ length pbs
frames-long [] = refl
frames-long (x ∷ pbs) = ap suc (frames-long pbs)

frame-at : (none : PlacedBody) (pbs : List PlacedBody) (q : ℕ) → q < length pbs → get_or (frames_of pbs) q no_frame ≡ (get_or pbs q none).frame
frame-at none [] q h = absurd (omega (arith, h))
frame-at none (x ∷ pbs) zero h = refl
frame-at none (x ∷ pbs) (suc q) h = frame-at none pbs q (omega (arith, h))

-- what the names of a body's environment know stays so
pub call-more : {Γ : Types} {qs : List Frame} {p : ℕ} {us : List ℕ} (f : Frame) → CallKept Γ qs p us → CallKept Γ (qs ++ f ∷ []) p us
call-more {qs = qs} {p = p} f C = record {
  below = omega (arith, C.below, length-snoc no_frame qs f);
  wants-are = ap (λ (x : Frame). x.wants) (at_before no_frame qs f p C.below) ∙ C.wants-are;
}

kept_more : {s l ts tb bs : List ℕ} {top : ℕ} {Γ : Types} {qs : List Frame} {pb : PlacedBody} {q : ℕ} (b : ℕ) (f : Frame) → BodyKept s l ts tb bs top Γ qs pb q → BodyKept s l ts tb (bs ++ b ∷ []) top Γ (qs ++ f ∷ []) pb q
kept_more {bs = bs} {q = q} b f B =
    let A = B.stands in
    record {
      stands = record {
        env = A.env;
        top = A.top;
        form = A.form;
        last = A.last;
        scene = rw (take_more bs b q A.before) A.scene;
        before = omega (arith, A.before, length-snoc 0 bs b);
        reads = A.reads;
        names = A.names;
        types_are = A.types_are;
        vars-are = A.vars-are;
        few-types = A.few-types;
        small = A.small;
        few = A.few;
      };
      low = B.low;
      types_are = B.types_are;
      two = B.two;
      extends = B.extends;
      calls = λ w p us h. call-more f (B.calls w p us h);
    }

module _ {s l ts tb bs : List ℕ} {top : ℕ} {Γ : Types} {pbs : List PlacedBody} {pb : PlacedBody} (b : ℕ) (A : AllKept s l ts tb bs top Γ pbs (length pbs))
    (B : BodyKept s l ts tb (bs ++ b ∷ []) top Γ (frames_of pbs ++ (pb.frame ∷ [])) pb (length pbs)) (long : length bs ≡ length pbs) where
  each_more : (none : PlacedBody) (q : ℕ) → q < length (pbs ++ pb ∷ []) → BodyKept s l ts tb (bs ++ b ∷ []) top Γ (frames_of (pbs ++ pb ∷ [])) (get_or (pbs ++ pb ∷ []) q none) q
  each_more none q h = go (le-or-lt (length pbs) q)
    where
      go : (length pbs ≤ q) ⊎ (q < length pbs) → BodyKept s l ts tb (bs ++ b ∷ []) top Γ (frames_of (pbs ++ pb ∷ [])) (get_or (pbs ++ pb ∷ []) q none) q
      go (inl g) =
          let e : length pbs ≡ q = omega (arith, h, g, length-snoc none pbs pb) in
          rw (at_last none pbs pb q e, ← e, frames-more pbs pb) B
      go (inr g) = rw (at_before none pbs pb q g, frames-more pbs pb) (kept_more b pb.frame (A.each none q g))

  old-node : (q : ℕ) → q < length pbs → NodeKept l top (get_or (bs ++ b ∷ []) q 0) q (get_or (frames_of (pbs ++ pb ∷ [])) q no_frame)
  old-node q h = rw (at_before 0 bs b q (omega (arith, h, long)), frames-more pbs pb, at_before no_frame (frames_of pbs) pb.frame q (omega (arith, h, frames-long pbs))) (A.nodes q h)

  -- of `main`, which has no node
  pub all-main : AllKept s l ts tb (bs ++ b ∷ []) top Γ (pbs ++ pb ∷ []) (length (pbs ++ pb ∷ []) - 1)
  all-main =
      let e = length-snoc pb pbs pb in
      record {
        each = each_more;
        nodes = λ q h. old-node q (omega (arith, h, e));
        procs = omega (arith, e);
        most = omega (arith, e);
      }

  -- of a procedure, whose node stands at b
  pub all-proc : (m : ℕ) → m ≡ length pbs → NodeKept l top b m pb.frame → AllKept s l ts tb (bs ++ b ∷ []) top Γ (pbs ++ pb ∷ []) (length (pbs ++ pb ∷ []))
  all-proc m i N₀ =
      record {
        each = each_more;
        nodes = λ q h. go q h (le-or-lt (length pbs) q);
        procs = omega arith;
        most = omega arith;
      }
    where
      N : NodeKept l top b (length pbs) pb.frame
      N = subst (λ (j : ℕ). NodeKept l top b j pb.frame) i N₀

      go : (q : ℕ) → q < length (pbs ++ pb ∷ []) → (length pbs ≤ q) ⊎ (q < length pbs) → NodeKept l top (get_or (bs ++ b ∷ []) q 0) q (get_or (frames_of (pbs ++ pb ∷ [])) q no_frame)
      go q h (inl g) =
          let e : length pbs ≡ q = omega (arith, h, g, length-snoc pb pbs pb) in
          rw (at_last 0 bs b q (long ∙ e), frames-more pbs pb, at_last no_frame (frames_of pbs) pb.frame q (frames-long pbs ∙ e), ← e) N
      go q h (inr g) = old-node q g

-- before `main`
pub kept-going : {s l ts tb : List ℕ} {kn : Known} {k : Declared} (S : LooseStanding s l ts tb kn k) → k.ended ≡ false
    → AllKept s l ts tb S.places kn.state.top k.env.types k.bodies (length k.bodies)
kept-going {s} {l} {ts} {tb} {kn} {k} S h = subst (λ (b : Bool). AllKept s l ts tb S.places kn.state.top k.env.types k.bodies (procs_of b (length k.bodies))) h S.bodies

-- all bodies stand
pub all-stand : {s l ts tb bs : List ℕ} {top : ℕ} {Γ : Types} {pbs : List PlacedBody} {n : ℕ} → AllKept s l ts tb bs top Γ pbs n → (none : PlacedBody) → AllStand s l ts tb bs pbs none
all-stand {pbs = pbs} A none = record {
  each = λ q h. (A.each none q h).stands;
  nodes = λ q h. let N = A.nodes q (omega (arith, h, A.most)) in rw (← frame-at none pbs q (omega (arith, h))) N.node;
  callees = λ q h w p us f.
      let C = (A.each none q h).calls w p us f in
      ap (λ (x : Frame). x.wants) (sym (frame-at none pbs p (omega (arith, C.below, frames-long pbs)))) ∙ C.wants-are;
}
