-- The loop over lines: what is to be judged is what is left.
use Rattle.std.proofs.Common.{Result, Ok, Err}
use mathlib.Core.Path.{◌≡◌, refl, sym, ap, ◌∙◌}
use mathlib.Core.Bool.{Bool, true, false, cond}
use mathlib.Core.List.{List, [], ◌∷◌, ◌++◌}
use Prim.Native.Nat.{ℕ, suc, ◌+◌, ◌-◌, ◌<◌, ◌≤◌}
use native.Mathlib.Numerals.{add-one}
use native.Mathlib.Omega.{arith}
use lib.Dec.{eqb}
use lib.ListN.{length, get_or, drop, drop_of_length-le, length-drop}
use lib.Seq.{drop-cons}
use Rattle.law.specs.Code.{BodyCode}
use Rattle.law.specs.Environment.{Declared}
use Rattle.law.specs.Lines.{Line, lines_of}
use Rattle.law.specs.Verdict as Meaning
use Rattle.law.specs.Verdict.{Judged, good, bad, Read, has, accepted, refused, must, onward, strictly, judge_line, judge_lines}
use Rattle.text_lines.specs.Passes.{line_at, after_line}
use Rattle.text_lines.proofs.Ties.{lines_cons, lines_at}
use Rattle.rule_known.specs.declared.Known.{Known}
use Rattle.rule_judge.specs.Judging.{Standing, JudgedBy, JudgesLine}
use Rattle.law_answers.specs.declared.Refusal.{Refusal}
use Rattle.rule_texts.specs.Answers.{CheckedBy, ChecksLines, ends_by, refused_by}

-- ---- the next line is further on

after-short : (b : ℕ) (s : List ℕ) → length (after_line (b ∷ s)) ≤ length s
unfolding after_line
after-short b [] = go (eqb b 10)
  where
    go : (t : Bool) → length (cond t [] (after_line [])) ≤ 0
    go true = omega arith
    go false = omega arith
after-short b (c ∷ s) = more (eqb b 10) (after-short c s)
  where
    more : (t : Bool) → length (after_line (c ∷ s)) ≤ length s → length (cond t (c ∷ s) (after_line (c ∷ s))) ≤ length (c ∷ s)
    more true h = omega arith
    more false h = omega arith

pub next-less : (s : List ℕ) (p q : ℕ) → p < length s → drop q s ≡ after_line (drop p s) → length s - q < length s - p
next-less s p q h e =
    let f : drop p s ≡ get_or s p 0 ∷ drop (suc p) s = drop-cons s p 0 h in
    let a : length (drop q s) ≤ length (drop (suc p) s) = rw (e, f) (after-short (get_or s p 0) (drop (suc p) s)) in
    omega (arith, length-drop q s, length-drop (suc p) s)

pub lines-here : (s : List ℕ) (p : ℕ) → p < length s → lines_of (drop p s) ≡ line_at (drop p s) ∷ lines_of (after_line (drop p s))
lines-here s p h = let f : drop p s ≡ get_or s p 0 ∷ drop (suc p) s = drop-cons s p 0 h in rw f (lines_cons (get_or s p 0) (drop (suc p) s))

-- ---- one line's answer

line_refused : (s l ts : List ℕ) (r : Read) (J : Judged (Declared × List BodyCode)) (m n : ℕ) (f : Declared × List BodyCode → Meaning.Verdict Read)
    → JudgedBy s l ts r J (Err m) → CheckedBy s l ts (onward J n f) (refused_by m n)
unfolding onward
line_refused s l ts r (bad k) m n f h = let e : m ≡ k = cc in rw e (refl, h.1)
line_refused s l ts r (good p) m n f h = absurd (cc (h.1))

-- what is left after a line, as a record so that its parts are named
record Next (s l ts : List ℕ) (kn : Known) (n : ℕ) (ls : List Line) (v : Meaning.Verdict Read) : Type 0 where
  read : Read
  places : List ℕ
  standing : Standing s l ts kn read places
  same : v ≡ judge_lines strictly (suc n) ls read

line-passed : (s l ts : List ℕ) (r : Read) (J : Judged (Declared × List BodyCode)) (kn : Known) (n : ℕ) (ls : List Line)
    → JudgedBy s l ts r J (Ok kn) → Next s l ts kn n ls (onward J n λ p. judge_lines strictly (suc n) ls (has p.0 (r.codes ++ p.1)))
unfolding onward
line-passed s l ts r (bad m) kn n ls h = absurd (cc (h.0))
line-passed s l ts r (good p) kn n ls h = let e : kn ≡ h.0 = cc in record { read = has p.0 (r.codes ++ p.1); places = h.2; standing = rw e h.3; same = refl }

-- ---- the loop: n is the number of the line at p, kn is known, l and ts are the lists

-- what is left, for r at the start
pub record Left (s : List ℕ) (n p : ℕ) (kn : Known) (l ts : List ℕ) (r : Read) : Type 0 where
  pub read : Read
  pub places : List ℕ
  pub standing : Standing s l ts kn read places
  pub same : judge_lines strictly 1 (lines_of s) r ≡ judge_lines strictly n (lines_of (drop p s)) read

pub record Going (s l₀ ts₀ : List ℕ) (kn₀ : Known) (n p : ℕ) (kn : Known) (l ts : List ℕ) : Type 0 where
  pub few : n ≤ p + 1
  pub as_long : length l ≡ length l₀
  pub types-as-long : length ts ≡ length ts₀
  pub left : (r : Read) (bs : List ℕ) → Standing s l₀ ts₀ kn₀ r bs → Left s n p kn l ts r

pub going_start : (s l ts : List ℕ) (kn : Known) → Going s l ts kn 1 0 kn l ts
going_start s l ts kn = record {
  few = omega arith;
  as_long = refl;
  types-as-long = refl;
  left = λ r bs S. record { read = r; places = bs; standing = S; same = refl };
}

module _ (s l₀ ts₀ : List ℕ) (kn₀ : Known) (n p : ℕ) (kn : Known) (l ts : List ℕ) (G : Going s l₀ ts₀ kn₀ n p kn l ts) where
  pub going-room : p < length s → length s ≤ 32768 → n + 1 ≤ 65536
  going-room h g = omega (arith, G.few)

  module _ (j : Result Known ℕ) (l' ts' : List ℕ) (h : p < length s) (L : JudgesLine s l ts kn p j l' ts') where
    pub drive-refuses : (m : ℕ) → j ≡ Err m → ChecksLines s l₀ ts₀ kn₀ (refused_by m n) l' ts'
    unfolding judge_lines
    drive-refuses m g = record {
      says = λ r bs S.
          let K : Left s n p kn l ts r = G.left r bs S in
          rw (K.same, lines-here s p h)
          (line_refused s l' ts' K.read (judge_line strictly K.read.known (line_at (drop p s))) m n _ (rw g at (L.says K.read K.places K.standing)));
    }

    pub drive-on : (after : Known) (q : ℕ) → j ≡ Ok after → drop q s ≡ after_line (drop p s) → length l' ≡ length l → length ts' ≡ length ts → Going s l₀ ts₀ kn₀ (n + 1) q after l' ts'
    unfolding judge_lines
    drive-on after q g e a b = record {
      few = let d = next-less s p q h e in omega (arith, G.few);
      as_long = a ∙ G.as_long;
      types-as-long = b ∙ G.types-as-long;
      left = λ r bs S.
          let K : Left s n p kn l ts r = G.left r bs S in
          let N : Next s l' ts' after n (lines_of (drop q s))
          (onward (judge_line strictly K.read.known (line_at (drop p s))) n λ x. judge_lines strictly (suc n) (lines_of (drop q s)) (has x.0 (K.read.codes ++ x.1)))
          = line-passed s l' ts' K.read (judge_line strictly K.read.known (line_at (drop p s))) after n (lines_of (drop q s)) (rw g at (L.says K.read K.places K.standing)) in
          record {
            read = N.read;
            places = N.places;
            standing = N.standing;
            same = K.same ∙ ap (λ ls. judge_lines strictly n ls K.read) (lines_at s p q h e) ∙ N.same ∙ ap (λ k. judge_lines strictly k (lines_of (drop q s)) N.read) (sym (add-one n));
          };
    }

  -- after all lines
  ends : (a b : Bool) (q : Read) (places : List ℕ) → Standing s l ts kn q places → a ≡ b → CheckedBy s l ts (onward (must 6 b) n λ _. accepted q) (ends_by a n kn)
  unfolding onward must
  ends true true q places S e = (kn, refl, places, S)
  ends true false q places S e = absurd (let z : ◌≡◌ {A = ℕ} 0 1 = cc in omega arith)
  ends false true q places S e = absurd (let z : ◌≡◌ {A = ℕ} 0 1 = cc in omega arith)
  ends false false q places S e = (refl, omega arith)

  pub drive-ends : (c : Result Known Refusal) → length s ≤ p → c ≡ ends_by kn.ended n kn → ChecksLines s l₀ ts₀ kn₀ c l ts
  unfolding judge_lines lines_of
  drive-ends c h e = record {
    says = λ r bs S.
        let K : Left s n p kn l ts r = G.left r bs S in
        rw (e, K.same, drop_of_length-le s h) (ends kn.ended K.read.known.ended K.read K.places K.standing K.standing.ended_is);
  }

pub ruleset drive-laws = (drive-refuses, drive-on, drive-ends)
