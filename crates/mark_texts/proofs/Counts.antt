-- How many cells a text has that the marking machine takes, and whose they are.
use Rattle.std.proofs.Common.{Result, Ok, Err}
use mathlib.Core.Path.{◌≡◌, refl, sym, subst, ◌∙◌}
use mathlib.Core.List.{List, ◌++◌}
use Prim.Native.Nat.{ℕ, min}
use native.Mathlib.Omega.{arith}
use borrow.Author.Tests.{eq-eqb, ne_eqb}
use lib.ListN.{length, take, drop, replicate}
use lib.Seq.{take_at}
use Rattle.rule_declarations.specs.State.{notes}
use Rattle.law.specs.Verdict.{Verdict, Read, accepted, refused, judge, loosely}
use Rattle.law_theorems.proofs.LinesCover.{judged-covered}
use Rattle.law_answers.specs.declared.Refusal.{Refusal}
use Rattle.law_answers.specs.Verdicts.{cells_told}
use Rattle.rule_known.specs.declared.Known.{Known}
use Rattle.rule_judge_loose.specs.Texts.{AdmittedBy, Admits}
use Rattle.rule_cells.specs.Cells.{counted_by, NamesBy}
use Rattle.law_answers.specs.Owners.{Owners, OwnedBy}
use Rattle.rule_texts.proofs.Texts.{part-long}
use Rattle.mark_texts.proofs.MarkWays.{judged-here}

counted_is : (s l ts tb : List ℕ) (v : Verdict Read) (c : Result Known Refusal) → AdmittedBy s l ts tb v c → counted_by c ≡ cells_told v
unfolding counted_by cells_told
counted_is s l ts tb (accepted q) c h = rw (h.1, h.2.holds.cells_are) refl
counted_is s l ts tb (refused m n) c h = rw h.0 refl

module _ (s l : List ℕ) (n : ℕ) (i : n ≡ min 16384 (length l)) (c : Result Known Refusal) (l' ts' tb' : List ℕ) (C : Admits s (take n l) (replicate notes 0) (replicate 264 0) c l' ts' tb') where
  pub cells-told : (r : Result ℕ Refusal) → r ≡ counted_by c → r ≡ cells_told (judge loosely s (length l))
  cells-told r e = e ∙ counted_is s l' ts' tb' (judge loosely s (length l)) c (judged-here s l n i c l' ts' tb' C)

  pub owners-told : (old names : List ℕ) → length l' ≡ length (take n l) → NamesBy (take n (l' ++ drop n l)) ts' c old names → Owners s (judge loosely s (length l)) old names
  owners-told old names e N = record { says = go (judge loosely s (length l)) refl (judged-here s l n i c l' ts' tb' C) }
    where
      front : take n (l' ++ drop n l) ≡ l'
      front = take_at l' (drop n l) n (e ∙ sym (part-long l n i))

      here : NamesBy l' ts' c old names
      here = subst (λ (x : List ℕ). NamesBy x ts' c old names) front N

      go : (v : Verdict Read) → judge loosely s (length l) ≡ v → AdmittedBy s l' ts' tb' v c → OwnedBy s v old names
      go (refused m k) h D = here.kept _ D.0
      go (accepted q) h D =
          let M = here.named D.0 D.1 in
          let K = D.2.holds in (
            M.long,
            subst (λ (x : ℕ). drop x names ≡ drop x old) K.cells_are M.rest,
            λ j a b.
                (M.each j a (omega (arith, K.cells_are))).says s q.known D.2.places K (judged-covered loosely s (length l) q h) b,
          )
