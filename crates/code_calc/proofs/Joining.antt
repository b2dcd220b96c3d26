-- The members of a set come one after another into it; in whatever order, it is the same.
use Rattle.std.proofs.Common.{◌≡◌, ℕ, ◌<◌, Bool, true, false, ◌||◌, [], ◌∷◌, ℤ, pos, sym, refl, ap, ◌∙◌, mod-eq_of_lt, arith}
use Rattle.leaf_sets.specs.Sets.{members, members_of, pattern_of, value_of, those, has, holds, with as added}
use Rattle.leaf_sets.proofs.Those.{those-same, inside as inside-those}
use Rattle.leaf_sets.proofs.Digits.{value-lt, members-value}
use Rattle.law.specs.Calculate.{Result, is, fails, stuck, ◌>>=◌, set_value, joined}

has-joined : (f : ℕ → Bool) (j : ℕ) → j < 32 → has j (members_of (set_value (those f 0 32))) ≡ f j
unfolding members_of pattern_of set_value
has-joined f j h =
    ap (λ (n : ℕ). has j (members n)) (mod-eq_of_lt {n = value_of (those f 0 32)} {m = 4294967296} (value-lt f))
    ∙ ap (has j) (members-value f) ∙ inside-those f 0 j 32 (omega arith) (omega arith)

or_turn : (a b c : Bool) → ((a || b) || c) ≡ ((a || c) || b)
or_turn true b c = refl
or_turn false true true = refl
or_turn false true false = refl
or_turn false false true = refl
or_turn false false false = refl

pub joined-turn : (z w t : ℤ) → joined z (joined w t) ≡ joined w (joined z t)
unfolding joined added
joined-turn z w t =
    ap set_value (those-same _ _ 0 32 (λ j h k.
    ap (λ (b : Bool). b || holds z (j ∷ [])) (has-joined (λ i. has i (members_of t) || holds w (i ∷ [])) j k)
    ∙ or_turn (has j (members_of t)) (holds w (j ∷ [])) (holds z (j ∷ []))
    ∙ ap (λ (b : Bool). b || holds w (j ∷ [])) (sym (has-joined (λ i. has i (members_of t) || holds z (i ∷ [])) j k))))

pub joined-set : (z : ℤ) (s r : ℕ) → s < 4294967296 → r ≡ value_of (added z (members s)) → pos r ≡ joined z (pos s)
unfolding joined set_value members_of pattern_of
joined-set z s r h e = ap pos (e ∙ ap (λ (n : ℕ). value_of (added z (members n))) (sym (mod-eq_of_lt {n = s} {m = 4294967296} h)))

pub bind-id : (v : Result ℤ) → v ≡ (v >>= λ t. is t)
bind-id (is z) = refl
bind-id (fails e) = refl
bind-id stuck = refl

pub bind-twice : (v : Result ℤ) (f g : ℤ → ℤ) → ((v >>= λ t. is (f t)) >>= λ t. is (g t)) ≡ (v >>= λ t. is (g (f t)))
bind-twice (is z) f g = refl
bind-twice (fails e) f g = refl
bind-twice stuck f g = refl
