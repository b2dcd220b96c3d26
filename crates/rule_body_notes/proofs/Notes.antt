-- The bodies' table after a body's line is written: the eight numbers there, and the others as they were.
use mathlib.Core.Path.{◌≡◌, refl, sym, ap, ◌∙◌}
use mathlib.Core.List.{List, [], ◌∷◌}
use mathlib.Core.Logic.{◌⊎◌, inl, inr}
use Prim.Native.Nat.{ℕ, suc, ◌+◌, ◌*◌, ◌%◌, ◌<◌, ◌≤◌, min}
use native.Mathlib.Nat.{mod-eq_of_lt, min-eq_left, min-eq_right}
use native.Mathlib.Omega.{arith}
use lib.ListN.{length, get_or, set, drop, drop_of_length-le}
use lib.Seq as Seq
use Rattle.leaf_integers.proofs.Order.{le-or-lt}
use Rattle.law_theorems.specs.Readings.{ended, read_bytes, stack_at, rest_at}
use Rattle.code.proofs.LayoutRegions.{sets-at, sets_below}
use Rattle.table_scope.specs.declared.Scope.{Scope}
use Rattle.table_bodies.specs.Table.{offset_of, stmts_before, types_of, scope_of}
use Rattle.rule_parameters.specs.declared.framing.Opened.{Opened}
use Rattle.rule_known.specs.declared.Known.{Known}
use Rattle.rule_body_notes.specs.Noting.{offset_in, line_place, noted_start, noted_names, noted_pairs, noted}

-- ---- the offset

stack-by : (s : List ℕ) (p q : ℕ) → drop p s ≡ drop q s → stack_at s p ≡ stack_at s q
unfolding stack_at rest_at
stack-by s p q e = ap (λ (r : List ℕ). ended (read_bytes r).begun (read_bytes r).stack) e

module _ (s : List ℕ) (at : ℕ) where
  pub offset-exact : at ≤ length s → length s ≤ 32768 → offset_in s at ≡ at
  unfolding offset_in
  offset-exact h g = let e : min at (length s) ≡ at = min-eq_left h in rw e (mod-eq_of_lt (omega arith))

  -- what stands there is what stands at the offset
  pub offset-stack : length s ≤ 32768 → stack_at s (offset_in s at) ≡ stack_at s at
  unfolding offset_in
  offset-stack h = go (le-or-lt (length s) at)
    where
      go : (length s ≤ at) ⊎ (at < length s) → stack_at s (min at (length s) % 65536) ≡ stack_at s at
      go (inl g) =
          let e : min at (length s) ≡ length s = min-eq_right g in
          let m : min at (length s) % 65536 ≡ length s = ap (λ (n : ℕ). n % 65536) e ∙ mod-eq_of_lt (omega arith) in
          ap (stack_at s) m ∙ stack-by s (length s) at (drop_of_length-le s {i = length s} (omega arith) ∙ sym (drop_of_length-le s {i = at} g))
      go (inr g) =
          let e : min at (length s) ≡ at = min-eq_left (omega arith) in
          let m : min at (length s) % 65536 ≡ at = ap (λ (n : ℕ). n % 65536) e ∙ mod-eq_of_lt (omega arith) in
          ap (stack_at s) m

module _ (s : List ℕ) (kn : Known) (tb : List ℕ) where
  pub start-noted : (at p n : ℕ) (t u v : List ℕ) → p ≡ line_place kn → n ≡ offset_in s at → t ≡ set tb p n → u ≡ set t (p + 1) kn.stmts → v ≡ set u (p + 2) kn.state.types
      → v ≡ noted_start s kn at tb
  unfolding noted_start
  start-noted at p n t u v q e f g h = h ∙ rw (g, f, e, q) refl

  pub names-noted : (x : Scope) (p : ℕ) (t u : List ℕ) → p ≡ line_place kn → t ≡ set tb (p + 3) x.count → u ≡ set t (p + 4) x.newest → u ≡ noted_names kn x tb
  unfolding noted_names
  names-noted x p t u q f g = g ∙ rw (f, q) refl

  pub pairs-noted : (x : Scope) (p n : ℕ) (t u v : List ℕ) → p ≡ line_place kn → n ≡ offset_in s x.pairs → t ≡ set tb (p + 5) n → u ≡ set t (p + 6) x.vars → v ≡ set u (p + 7) x.parameters
      → v ≡ noted_pairs s kn x tb
  unfolding noted_pairs
  pairs-noted x p n t u v q e f g h = h ∙ rw (g, f, e, q) refl

  pub body-noted : (o : Opened) (t u v : List ℕ) → t ≡ noted_start s kn o.at tb → u ≡ noted_names kn o.scope t → v ≡ noted_pairs s kn o.scope u → v ≡ noted s kn o tb
  unfolding noted
  body-noted o t u v f g h = h ∙ rw (g, f) refl

-- ---- the table

-- body q has the same line in both
pub record SameLine (tb tb' : List ℕ) (q : ℕ) : Type 0 where
  pub offset-is : offset_of tb' q ≡ offset_of tb q
  pub stmts-are : stmts_before tb' q ≡ stmts_before tb q
  pub types_are : types_of tb' q ≡ types_of tb q
  pub scope-is : scope_of tb' q ≡ scope_of tb q

pub same_line : (tb : List ℕ) (q : ℕ) → SameLine tb tb q
same_line tb q = record { offset-is = refl; stmts-are = refl; types_are = refl; scope-is = refl }

-- numbers one after another
module _ (p : ℕ) where
  second : p + 1 ≡ suc p
  second = omega arith

  third : p + 2 ≡ suc (suc p)
  third = omega arith

  fourth : p + 3 ≡ suc (suc (suc p))
  fourth = omega arith

  fifth : p + 4 ≡ suc (suc (suc (suc p)))
  fifth = omega arith

  sixth : p + 5 ≡ suc (suc (suc (suc (suc p))))
  sixth = omega arith

  seventh : p + 6 ≡ suc (suc (suc (suc (suc (suc p)))))
  seventh = omega arith

  eighth : p + 7 ≡ suc (suc (suc (suc (suc (suc (suc p))))))
  eighth = omega arith

-- the line of body q, which is the next
module _ (s : List ℕ) (kn : Known) (o : Opened) (tb : List ℕ) where
  abbrev line : List ℕ
  line = offset_in s o.at ∷ kn.stmts ∷ kn.state.types ∷ o.scope.count ∷ o.scope.newest ∷ offset_in s o.scope.pairs ∷ o.scope.vars ∷ o.scope.parameters ∷ []

  noted-line : noted s kn o tb ≡ Seq.sets tb (line_place kn) line
  unfolding noted noted_start noted_names noted_pairs
  noted-line = rw (second (line_place kn), third (line_place kn), fourth (line_place kn), fifth (line_place kn), sixth (line_place kn), seventh (line_place kn), eighth (line_place kn)) refl

  pub noted-long : length (noted s kn o tb) ≡ length tb
  noted-long = ap (λ (t : List ℕ). length t) noted-line ∙ Seq.length-sets tb (line_place kn) line

  module _ (q : ℕ) (here : kn.state.procs ≡ q) (few : q ≤ 32) (long : 264 ≤ length tb) where
    noted_here : noted s kn o tb ≡ Seq.sets tb (8 * q) line
    noted_here = let e : kn.state.procs % 64 ≡ q = ap (λ (n : ℕ). n % 64) here ∙ mod-eq_of_lt (omega arith) in noted-line ∙ ap (λ (n : ℕ). Seq.sets tb (8 * n) line) e

    number : (i : ℕ) → i < 8 → get_or (noted s kn o tb) (8 * q + i) 0 ≡ get_or line i 0
    number i h = ap (λ (t : List ℕ). get_or t (8 * q + i) 0) noted_here ∙ sets-at line tb (8 * q) i (omega arith) h

    pub noted-offset : offset_of (noted s kn o tb) q ≡ offset_in s o.at
    noted-offset = ap (λ (i : ℕ). get_or (noted s kn o tb) i 0) (omega arith) ∙ number 0 (omega arith)

    pub noted-stmts : stmts_before (noted s kn o tb) q ≡ kn.stmts
    noted-stmts = number 1 (omega arith)

    pub noted-types : types_of (noted s kn o tb) q ≡ kn.state.types
    noted-types = number 2 (omega arith)

    pub noted-scope : o.scope.pairs ≤ length s → length s ≤ 32768 → scope_of (noted s kn o tb) q ≡ o.scope
    noted-scope h g = rw (number 3 (omega arith), number 4 (omega arith), number 5 (omega arith), number 6 (omega arith), number 7 (omega arith), offset-exact s o.scope.pairs h g) refl

    elsewhere : (i : ℕ) → i < 8 * q → get_or (noted s kn o tb) i 0 ≡ get_or tb i 0
    elsewhere i h = ap (λ (t : List ℕ). get_or t i 0) noted_here ∙ sets_below line tb (8 * q) i h

    -- the bodies before have theirs
    pub noted-before : (r : ℕ) → r < q → SameLine tb (noted s kn o tb) r
    noted-before r h = record {
      offset-is = elsewhere (8 * r) (omega arith);
      stmts-are = elsewhere (8 * r + 1) (omega arith);
      types_are = elsewhere (8 * r + 2) (omega arith);
      scope-is = rw (elsewhere (8 * r + 3) (omega arith), elsewhere (8 * r + 4) (omega arith), elsewhere (8 * r + 5) (omega arith), elsewhere (8 * r + 6) (omega arith), elsewhere (8 * r + 7) (omega arith)) refl;
    }
