-- The ways past a part: the levels and what is left, at each word and bracket.
use mathlib.Core.Path.{◌≡◌, refl, sym, ap, ◌∙◌}
use mathlib.Core.List.{List}
use Prim.Native.Nat.{ℕ, zero, suc, ◌+◌, ◌*◌, ◌-◌, ◌<◌, ◌≤◌}
use native.Mathlib.Numerals.{add-one}
use native.Mathlib.Omega.{arith}
use lib.ListN.{length}
use Rattle.law.specs.Trees.{Tree, word, form, Trees, end, ◌then◌, nodes, nodes_in, Run, first, later, push, word_at}
use Rattle.law_theorems.specs.Readings.{stack_at}
use Rattle.text_words.specs.Passes.{nodes_all}
use Rattle.text_words.specs.declared.sight.Sight.{Sight}
use Rattle.text_words.specs.declared.sight.Sight.TheVariants as sight
use Rattle.text_words.specs.Sights.{Looks, Ends}
use Rattle.text_skips.specs.declared.Move.{Move}
use Rattle.text_skips.specs.declared.Move.TheVariants as move
use Rattle.text_skips.specs.Skips.{levels_out, out_from, Moves, Past, Skips}
use Rattle.text_skips.proofs.Counts.{all_first, all_push, nodes-short}

-- ---- a closing bracket

pub shut_none : (n q : ℕ) → n ≡ 0 → move.Out q ≡ out_from n q
unfolding out_from
shut_none n q e = rw e

pub shut-some : (n q : ℕ) → ((n ≡ 0) → ⊥) → move.To q (n - 1) ≡ out_from n q
unfolding out_from
shut-some zero q h = absurd (h refl)
shut-some (suc n) q h = let e : suc n - 1 ≡ n = omega arith in rw e

pub ruleset shut_laws = (shut_none, shut-some)

-- ---- a step

module _ (s : List ℕ) (p n : ℕ) (x : Sight) (h : Looks s (stack_at s p) x) where
  opened : (q : ℕ) → x ≡ sight.Form q → stack_at s p ≡ push (form (first (stack_at s q))) (later (stack_at s q))
  opened q e = rw e at h.says

  form-nodes : (q : ℕ) → x ≡ sight.Form q → nodes_all (stack_at s p) ≡ 1 + nodes_all (stack_at s q)
  unfolding nodes
  form-nodes q e =
      let a = ap nodes_all (opened q e) ∙ all_push (form (first (stack_at s q))) (later (stack_at s q)) in
      let b = all_first (stack_at s q) in
      omega arith

  pub step-form : (q : ℕ) → x ≡ sight.Form q → Moves s p n (move.To q (n + 1))
  unfolding levels_out
  step-form q e = let a = form-nodes q e in record {
    says = (ap (λ (k : List (Trees Run)). levels_out n (later k)) (opened q e) ∙ ap (λ (m : ℕ). levels_out m (later (stack_at s q))) (sym (add-one n)), (omega arith, omega arith));
  }

  passed : (q r : ℕ) → x ≡ sight.Leaf q → Ends s q r → stack_at s p ≡ push (word (word_at s q)) (stack_at s r)
  passed q r e f = (rw e at h.says).0 ∙ ap (push (word (word_at s q))) (sym f.rest)

  pub step-leaf : (q r : ℕ) → x ≡ sight.Leaf q → Ends s q r → Moves s p n (move.To r n)
  unfolding nodes
  step-leaf q r e f =
      let a = ap nodes_all (passed q r e f) ∙ all_push (word (word_at s q)) (stack_at s r) in
      record { says = (ap (λ (k : List (Trees Run)). levels_out n (later k)) (passed q r e f), (omega arith, omega arith)) }

  pub step-shut : (q : ℕ) (r : Move) → x ≡ sight.Shut q → r ≡ out_from n q → Moves s p n r
  unfolding levels_out out_from nodes
  step-shut q r e f = rw f (go n)
    where
      said : (first (stack_at s p) ≡ end) × (later (stack_at s p) ≡ stack_at s q)
      said = rw e at h.says

      same : nodes_all (stack_at s p) ≡ nodes_all (stack_at s q)
      same = all_first (stack_at s p) ∙ ap (λ (ts : Trees Run). nodes_in ts + nodes_all (later (stack_at s p))) said.0 ∙ let a = ap nodes_all said.1 in omega arith

      go : (m : ℕ) → Moves s p m (out_from m q)
      go zero = record { says = said.1 }
      go (suc m) = let a = same in record { says = (ap (λ (k : List (Trees Run)). levels_out m (later k)) said.1, (omega arith, omega arith)) }

pub ruleset step_laws = (step-form, step-leaf, step-shut)

-- ---- the loop: from `at` on the walk came to p, inside n more forms

pub record Inside (s : List ℕ) (at p n : ℕ) : Type 0 where
  pub same : later (stack_at s at) ≡ levels_out n (later (stack_at s p))
  pub few : n + nodes_all (stack_at s p) ≤ length s

pub inside-start : (s : List ℕ) (at : ℕ) → Inside s at at 0
unfolding levels_out
inside-start s at = record { same = refl; few = let a = nodes-short s at in omega arith }

pub inside-few : (s : List ℕ) (at p n : ℕ) → Inside s at p n → n + nodes_all (stack_at s p) ≤ length s
inside-few s at p n i = i.few

module _ (s : List ℕ) (p n : ℕ) (r : Move) (h : Moves s p n r) where
  pub inside_on : (at q m : ℕ) → Inside s at p n → r ≡ move.To q m → Inside s at q m
  inside_on at q m i e = let g = rw e at h.says in record { same = i.same ∙ g.0; few = let a = i.few in let b = g.1.0 in omega arith }

  pub inside-out : (at q : ℕ) → Inside s at p n → r ≡ move.Out q → Past s at q
  inside-out at q i e = let g : levels_out n (later (stack_at s p)) ≡ stack_at s q = rw e at h.says in record { beyond = i.same ∙ g }

  pub inside-falls : (q m : ℕ) → r ≡ move.To q m → 2 * nodes_all (stack_at s q) + m < 2 * nodes_all (stack_at s p) + n
  inside-falls q m e = let g = rw e at h.says in g.1.1

pub ruleset inside-laws = (inside_on, inside-out)

-- ---- a part

head-same : {t u : Tree Run} {ts us : Trees Run} → (t then ts) ≡ (u then us) → t ≡ u
head-same {t} e = ap (head_or t) e
  where
    head_or : Tree Run → Trees Run → Tree Run
    head_or x end = x
    head_or x (y then ys) = y

module _ (s : List ℕ) (at : ℕ) (x : Sight) (h : Looks s (stack_at s at) x) where
  -- a tree that was pushed onto what stands from q on
  pushed : (t : Tree Run) (q : ℕ) → stack_at s at ≡ push t (stack_at s q) → Skips s at q
  pushed t q g = record {
    says = λ u us e. let f : t ≡ u = head-same (sym (ap first g) ∙ e) in record {
      here = ap first g ∙ ap (λ (v : Tree Run). v then first (stack_at s q)) f;
      around = ap later g;
    };
  }

  pub skip-form : (p q : ℕ) → x ≡ sight.Form p → Past s p q → Skips s at q
  skip-form p q e f = pushed (form (first (stack_at s p))) q ((rw e at h.says) ∙ ap (push (form (first (stack_at s p)))) f.beyond)

  pub skip-leaf : (p q : ℕ) → x ≡ sight.Leaf p → Ends s p q → Skips s at q
  skip-leaf p q e f = pushed (word (word_at s p)) q ((rw e at h.says).0 ∙ ap (push (word (word_at s p))) (sym f.rest))

  pub skip-shut : (q : ℕ) → x ≡ sight.Shut q → Skips s at q
  skip-shut q e = record { says = λ t us f. absurd (none (sym f ∙ (rw e at h.says).0)) }
    where
      none : {t : Tree Run} {us : Trees Run} → (t then us) ≡ end → ⊥
      none g = let z : ◌≡◌ {A = ℕ} 0 1 = cc in omega arith

pub ruleset skip_laws = (skip-form, skip-leaf, skip-shut)
