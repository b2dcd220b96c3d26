-- How many cells a text has, and whose they are.
use Rattle.std.proofs.Common.{Result, Ok, Err}
use mathlib.Core.Path.{◌≡◌, refl, sym, ap, subst, ◌∙◌}
use mathlib.Core.List.{List, ◌++◌}
use Prim.Native.Nat.{ℕ, ◌+◌, ◌-◌, ◌<◌, ◌≤◌, min}
use native.Mathlib.Decide.{ℕ_discrete}
use native.Mathlib.Omega.{arith}
use borrow.Author.Tests.{eq-eqb, ne_eqb}
use lib.ListN.{length, get_or, set, take, drop, replicate, length-set}
use lib.Seq.{take_at, get_or-set_same, get_or-set_other, drop-set-lt}
use Rattle.rule_declarations.specs.State.{notes}
use Rattle.law.specs.Verdict as Meaning
use Rattle.law.specs.Verdict.{Read, accepted, refused}
use Rattle.law.specs.Whole.{verdict_of}
use Rattle.law_theorems.proofs.LinesCover.{text-covered}
use Rattle.law_answers.specs.declared.Refusal.{Refusal}
use Rattle.law_answers.specs.Verdicts.{cells_told}
use Rattle.rule_declarations.specs.declared.State.{State}
use Rattle.rule_stores.specs.Stores.{Owner}
use Rattle.rule_known.specs.declared.Known.{Known}
use Rattle.rule_texts.specs.Answers.{CheckedBy, Checks}
use Rattle.rule_cells.specs.Cells.{counted_by, Named, Names, NamesBy}
use Rattle.law_answers.specs.Owners.{Owners, OwnedBy}
use Rattle.rule_texts.proofs.Texts.{verdict-same, part-long, zeros}

-- ---- the names, one by one

module _ (l ts : List ℕ) (st : State) where
  pub named_start : (names : List ℕ) → Named l ts st 0 names names
  named_start names = record { each = λ j h. absurd (omega arith); rest = refl }

  module _ (i : ℕ) (old names : List ℕ) (N : Named l ts st i old names) where
    pub named-next : (r : ℕ) → i < length names → i < st.cells → Owner l ts st i r → Named l ts st (i + 1) old (set names i r)
    named-next r h k O = record { each = λ j a b c. go j (ℕ_discrete j i) a (rw length-set at b) c; rest = drop-set-lt st.cells names i r k ∙ N.rest }
      where
        go : (j : ℕ) → Dec (j ≡ i) → j < i + 1 → j < length names → j < st.cells → Owner l ts st j (get_or (set names i r) j 0)
        go j (yes e) a b c = rw (e, get_or-set_same names i r 0 h) O
        go j (no e) a b c = rw (get_or-set_other names i j r 0 e) (N.each j (omega arith) b c)

    pub names-done : i ≡ min (length old) st.cells → length names ≡ length old → Names l ts st old names
    names-done h e = record { long = e; each = λ j b c. N.each j (omega arith) b c; rest = N.rest }

module _ (l ts : List ℕ) (old : List ℕ) where
  pub names-refused : (c : Result Known Refusal) (e : Refusal) → c ≡ Err e → NamesBy l ts c old old
  names-refused c e h = record { kept = λ _ _. refl; named = λ kn g. absurd (cc (h, g)) }

  pub names-accepted : (c : Result Known Refusal) (kn : Known) (names : List ℕ) → c ≡ Ok kn → Names l ts kn.state old names → NamesBy l ts c old names
  names-accepted c kn names h N = record { kept = λ e g. absurd (cc (h, g)); named = λ k g. let i : kn ≡ k = cc in rw (← i) N }

pub ruleset checked-laws = (names-refused, names-accepted)

-- ---- the whole

counted_is : (s l ts : List ℕ) (v : Meaning.Verdict Read) (c : Result Known Refusal) → CheckedBy s l ts v c → counted_by c ≡ cells_told v
unfolding counted_by cells_told
counted_is s l ts (accepted q) c h = rw (h.1, h.3.holds.cells_are) refl
counted_is s l ts (refused m n) c h = rw h.0 refl

module _ (s l : List ℕ) (n : ℕ) (i : n ≡ min 16384 (length l)) (c : Result Known Refusal) (l' ts' : List ℕ) (C : Checks s (take n l) (replicate notes 0) c l' ts') where
  same-verdict : verdict_of s (length (take n l)) ≡ verdict_of s (length l)
  same-verdict = ap (λ m. verdict_of s m) (sym (part-long l n i) ∙ i) ∙ verdict-same s (length l)

  checked : CheckedBy s l' ts' (verdict_of s (length l)) c
  checked = subst (λ (x : Meaning.Verdict Read). CheckedBy s l' ts' x c) same-verdict (C.says (omega arith) (zeros notes))

  pub cells-told : (r : Result ℕ Refusal) → r ≡ counted_by c → r ≡ cells_told (verdict_of s (length l))
  cells-told r e = e ∙ counted_is s l' ts' (verdict_of s (length l)) c checked

  pub owners-told : (old names : List ℕ) → length l' ≡ length (take n l) → NamesBy (take n (l' ++ drop n l)) ts' c old names → Owners s (verdict_of s (length l)) old names
  owners-told old names e N = record { says = go (verdict_of s (length l)) refl checked }
    where
      front : take n (l' ++ drop n l) ≡ l'
      front = take_at l' (drop n l) n (e ∙ sym (part-long l n i))

      here : NamesBy l' ts' c old names
      here = subst (λ (x : List ℕ). NamesBy x ts' c old names) front N

      go : (v : Meaning.Verdict Read) → verdict_of s (length l) ≡ v → CheckedBy s l' ts' v c → OwnedBy s v old names
      go (refused m k) h D = here.kept _ D.0
      go (accepted q) h D =
          let M = here.named D.0 D.1 in
          let K = D.3.holds in (
            M.long,
            subst (λ (x : ℕ). drop x names ≡ drop x old) K.cells_are M.rest,
            λ j a b.
                (M.each j a (omega (arith, K.cells_are))).says s q.known D.2 K (text-covered s (length l) q h) b,
          )
