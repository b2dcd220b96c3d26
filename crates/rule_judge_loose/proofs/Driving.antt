-- The lines of a text in their order, and rows 1 to 3 before them.
use Rattle.std.proofs.Common.{Result, Ok, Err}
use mathlib.Core.Path.{◌≡◌, refl, sym, ap, ◌∙◌}
use mathlib.Core.Bool.{Bool, true, false}
use mathlib.Core.List.{List, [], ◌++◌}
use Prim.Native.Nat.{ℕ, suc, ◌+◌, ◌<◌, ◌≤◌}
use native.Mathlib.Numerals.{add-one}
use native.Mathlib.Omega.{arith}
use borrow.Author.Tests.{le-leb, lt-leb}
use lib.ListN.{length, get_or, drop, drop_of_length-le}
use Rattle.std.specs.Prelude.{Option as Maybe, Some, None}
use Rattle.law.specs.Code.{BodyCode}
use Rattle.law.specs.Environment.{Declared, nothing_declared}
use Rattle.law.specs.Lines.{Line, lines_of, refused_at}
use Rattle.law.specs.Verdict.{Verdict, Judged, good, bad, Read, has, accepted, must, onward, opening, loosely, judge, judge_line, judge_lines}
use Rattle.law_theorems.proofs.TypeSizes.{small-start}
use Rattle.text_lines.specs.Passes.{line_at, after_line, line_of}
use Rattle.text_lines.proofs.Ties.{lines_at}
use Rattle.rule_declarations.specs.State.{notes, start_state}
use Rattle.rule_declarations.proofs.Starting.{holds-start}
use Rattle.rule_known.specs.declared.Known.{Known}
use Rattle.law_answers.specs.declared.Refusal.{Refusal}
use Rattle.rule_texts.specs.Answers.{start_known, refused_by, ends_by}
use Rattle.rule_texts.proofs.Driving.{next-less, lines-here}
use Rattle.rule_texts.proofs.Texts.{none-refused, some-refused}
use Rattle.rule_judge_loose.specs.Standing.{LooseStanding}
use Rattle.rule_judge_loose.specs.Judging.{LooselyBy, JudgesLoosely}
use Rattle.rule_judge_loose.specs.Texts.{AdmittedBy, AdmitsLines, Admits}

-- ---- one line's answer

line_refused : (s l ts tb : List ℕ) (J : Judged (Declared × List BodyCode)) (m n : ℕ) (f : Declared × List BodyCode → Verdict Read)
    → LooselyBy s l ts tb J (Err m) → AdmittedBy s l ts tb (onward J n f) (refused_by m n)
unfolding onward
line_refused s l ts tb (bad k) m n f h = let e : m ≡ k = cc in rw e (refl, h.1)
line_refused s l ts tb (good p) m n f h = absurd (cc (h.1))

-- what is left after a line
record Next (s l ts tb : List ℕ) (kn : Known) (n : ℕ) (ls : List Line) (v : Verdict Read) : Type 0 where
  read : Read
  standing : LooseStanding s l ts tb kn read.known
  same : v ≡ judge_lines loosely (suc n) ls read

line-passed : (s l ts tb : List ℕ) (r : Read) (J : Judged (Declared × List BodyCode)) (kn : Known) (n : ℕ) (ls : List Line)
    → LooselyBy s l ts tb J (Ok kn) → Next s l ts tb kn n ls (onward J n λ p. judge_lines loosely (suc n) ls (has p.0 (r.codes ++ p.1)))
unfolding onward
line-passed s l ts tb r (bad m) kn n ls h = absurd (cc (h.0))
line-passed s l ts tb r (good p) kn n ls h = let e : kn ≡ h.0 = cc in record { read = has p.0 (r.codes ++ p.1); standing = rw e h.2; same = refl }

-- ---- the loop: n is the number of the line at p, kn is known, l, ts and tb are the lists

-- what is left, for r at the start
pub record Left (s : List ℕ) (n p : ℕ) (kn : Known) (l ts tb : List ℕ) (r : Read) : Type 0 where
  pub read : Read
  pub standing : LooseStanding s l ts tb kn read.known
  pub same : judge_lines loosely 1 (lines_of s) r ≡ judge_lines loosely n (lines_of (drop p s)) read

pub record Going (s l₀ ts₀ tb₀ : List ℕ) (kn₀ : Known) (n p : ℕ) (kn : Known) (l ts tb : List ℕ) : Type 0 where
  pub few : n ≤ p + 1
  pub as_long : length l ≡ length l₀
  pub types-as-long : length ts ≡ length ts₀
  pub table-as-long : length tb ≡ length tb₀
  pub left : (r : Read) → LooseStanding s l₀ ts₀ tb₀ kn₀ r.known → Left s n p kn l ts tb r

pub going_start : (s l ts tb : List ℕ) (kn : Known) → Going s l ts tb kn 1 0 kn l ts tb
going_start s l ts tb kn = record {
  few = omega arith;
  as_long = refl;
  types-as-long = refl;
  table-as-long = refl;
  left = λ r S. record { read = r; standing = S; same = refl };
}

module _ (s l₀ ts₀ tb₀ : List ℕ) (kn₀ : Known) (n p : ℕ) (kn : Known) (l ts tb : List ℕ) (G : Going s l₀ ts₀ tb₀ kn₀ n p kn l ts tb) where
  pub going-room : p < length s → length s ≤ 32768 → n + 1 ≤ 65536
  going-room h g = omega (arith, G.few)

  module _ (j : Result Known ℕ) (l' ts' tb' : List ℕ) (h : p < length s) (L : JudgesLoosely s l ts tb kn p j l' ts' tb') where
    pub drive-refuses : (m : ℕ) → j ≡ Err m → AdmitsLines s l₀ ts₀ tb₀ kn₀ (refused_by m n) l' ts' tb'
    unfolding judge_lines
    drive-refuses m g = record {
      says = λ r S.
          let K : Left s n p kn l ts tb r = G.left r S in
          rw (K.same, lines-here s p h)
          (line_refused s l' ts' tb' (judge_line loosely K.read.known (line_at (drop p s))) m n _ (rw g at (L.says K.read.known K.standing)));
    }

    pub drive-on : (after : Known) (q : ℕ) → j ≡ Ok after → drop q s ≡ after_line (drop p s) → length l' ≡ length l → length ts' ≡ length ts → length tb' ≡ length tb
        → Going s l₀ ts₀ tb₀ kn₀ (n + 1) q after l' ts' tb'
    unfolding judge_lines
    drive-on after q g e a b c = record {
      few = let d = next-less s p q h e in omega (arith, G.few);
      as_long = a ∙ G.as_long;
      types-as-long = b ∙ G.types-as-long;
      table-as-long = c ∙ G.table-as-long;
      left = λ r S.
          let K : Left s n p kn l ts tb r = G.left r S in
          let N : Next s l' ts' tb' after n (lines_of (drop q s))
          (onward (judge_line loosely K.read.known (line_at (drop p s))) n λ x. judge_lines loosely (suc n) (lines_of (drop q s)) (has x.0 (K.read.codes ++ x.1)))
          = line-passed s l' ts' tb' K.read (judge_line loosely K.read.known (line_at (drop p s))) after n (lines_of (drop q s)) (rw g at (L.says K.read.known K.standing)) in
          record {
            read = N.read;
            standing = N.standing;
            same = K.same ∙ ap (λ ls. judge_lines loosely n ls K.read) (lines_at s p q h e) ∙ N.same ∙ ap (λ k. judge_lines loosely k (lines_of (drop q s)) N.read) (sym (add-one n));
          };
    }

  -- after all lines
  ends : (a b : Bool) (q : Read) → LooseStanding s l ts tb kn q.known → a ≡ b → q.known.ended ≡ b → AdmittedBy s l ts tb (onward (must 6 b) n λ _. accepted q) (ends_by a n kn)
  unfolding onward must
  ends true true q S e i = (kn, refl, S, i)
  ends true false q S e i = absurd (let z : ◌≡◌ {A = ℕ} 0 1 = cc in omega arith)
  ends false true q S e i = absurd (let z : ◌≡◌ {A = ℕ} 0 1 = cc in omega arith)
  ends false false q S e i = (refl, omega arith)

  pub drive-ends : (c : Result Known Refusal) → length s ≤ p → c ≡ ends_by kn.ended n kn → AdmitsLines s l₀ ts₀ tb₀ kn₀ c l ts tb
  unfolding judge_lines lines_of
  drive-ends c h e = record {
    says = λ r S.
        let K : Left s n p kn l ts tb r = G.left r S in
        rw (e, K.same, drop_of_length-le s h) (ends kn.ended K.read.known.ended K.read K.standing K.standing.ended_is refl);
  }

pub ruleset drive-laws = (drive-refuses, drive-on, drive-ends)

-- ---- before any line

standing-start : (s l ts tb : List ℕ) → length s ≤ 32768 → 16384 ≤ length l → notes ≤ length ts → ((i : ℕ) → get_or ts i 0 ≡ 0) → 264 ≤ length tb
    → LooseStanding s l ts tb start_known nothing_declared
unfolding start_known start_state
standing-start s l ts tb a b c h d = record {
  places = [];
  holds = holds-start s l ts a b c h;
  stmts-are = refl;
  nodes-are = refl;
  ended_is = refl;
  two = omega arith;
  small = small-start;
  few-stmts = omega arith;
  few-nodes = omega arith;
  room = omega arith;
  few-procs = λ _. omega arith;
  few-bodies = omega arith;
  main-there = λ e. absurd (let z : ◌≡◌ {A = ℕ} 0 1 = cc in omega arith);
  long-table = d;
  bodies = record { each = λ none q g. absurd (omega (arith, g)); nodes = λ q g. absurd (omega (arith, g)); procs = omega arith; most = omega arith };
}

-- ---- the rows in their order

module _ (s l ts tb : List ℕ) (c : Result Known Refusal) where
  pub check-bench : length l < 16384 → c ≡ refused_by 1 0 → Admits s l ts tb c l ts tb
  unfolding judge opening
  check-bench h e = record { says = λ _ _ _. rw (e, lt-leb 16384 (length l) h) (refl, omega arith) }

  module _ (g : 16384 ≤ length l) where
    pub check-length : 32768 < length s → c ≡ refused_by 2 0 → Admits s l ts tb c l ts tb
    unfolding judge opening
    check-length h e = record { says = λ _ _ _. rw (e, le-leb 16384 (length l) g, lt-leb (length s) 32768 h) (refl, omega arith) }

    module _ (h : length s ≤ 32768) (o : Maybe ℕ) (f : o ≡ line_of (refused_at 1 s)) where
      pub check-byte : (n : ℕ) → o ≡ Some n → c ≡ refused_by 3 n → Admits s l ts tb c l ts tb
      unfolding judge opening
      check-byte n i e = record {
        says = λ _ _ _.
            rw (e, le-leb 16384 (length l) g, le-leb (length s) 32768 h, some-refused s n (sym f ∙ i)) (refl, omega arith);
      }

      pub check-rest : (kn : Known) (l' ts' tb' : List ℕ) → o ≡ None → kn ≡ start_known → AdmitsLines s l ts tb kn c l' ts' tb' → Admits s l ts tb c l' ts' tb'
      unfolding judge opening
      check-rest kn l' ts' tb' i k C = record {
        says = λ a z d.
            let S : LooseStanding s l ts tb kn nothing_declared = rw k (standing-start s l ts tb h g a z d) in
            rw (le-leb 16384 (length l) g, le-leb (length s) 32768 h, none-refused s (sym f ∙ i)) (C.says (has nothing_declared []) S);
      }

pub ruleset check-laws = (check-bench, check-length, check-byte, check-rest)
