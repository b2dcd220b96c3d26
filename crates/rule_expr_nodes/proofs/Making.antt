-- The laws of a node's code: each way through a function gives the answer that `Nodes` defines.
use mathlib.Core.Path.{◌≡◌, refl, sym, ap, ◌∙◌, subst}
use mathlib.Core.Bool.{Bool, true, false, true≢false, and-eq-true_iff}
use mathlib.Core.List.{List, [], ◌∷◌}
use Prim.Native.Nat.{ℕ, suc, ◌-◌, ◌%◌, ◌≤◌}
use native.Mathlib.Nat.{not-suc-le-zero, mod-eq_of_lt}
use native.Mathlib.Omega.{arith}
use borrow.Author.Tests.{le-ltb, ltb-true, leb-true}
use lib.IntN.{ℤ, pos, negsuc, ◌-ℤ◌}
use lib.Signed.{lt_z, le_z}
use mir.Syntax.{w64}
use mir.Val.{SFits, to_z, of_z}
use mir.Facts.{to_z-of_z}
use Rattle.leaf_integers.specs.Integers.{inside, least, most}
use Rattle.leaf_sets.specs.Sets.{pattern_of}
use Rattle.code.specs.Layout.{lay, bits}
use Rattle.table_list.specs.Laid.{Laid}
use Rattle.rule_faults.specs.declared.Fault.{Fault}
use Rattle.rule_faults.specs.declared.Fault.TheVariants.{Clear, Kind, Name, Form}
use Rattle.rule_faults.specs.declared.Got.{Got}
use Rattle.rule_faults.specs.Got.{is_clear, failed_got}
use Rattle.rule_expr_nodes.specs.Nodes.{Made, node_made, Makes, IsBits, if_clear, literal_made}

-- a signed local as it is read back from its bits
abbrev wire : ℤ → ℤ
wire z = to_z w64 (of_z w64 z)

false-true : false ≡ true → ⊥
false-true h = subst IsFalse h tt
  where
    IsFalse : Bool → Type 0
    IsFalse false = Unit {0}
    IsFalse true = ⊥

pub node-is : (ns : List ℕ) (k q top t : ℕ) (l l' : List ℕ) → Laid (lay ns top l) t l'
    → Makes (node_made k q (lay ns top l)) (record { fault = Clear; kind = k; place = top; next = q; top = t }) l'
unfolding lay
node-is ns k q top t l l' h = record { given = ap (λ u. record { fault = Clear; kind = k; place = top; next = q; top = u }) h.free; left = h.left }

-- ---- faults that came before

module _ (f : Fault) (k q t : ℕ) (l : List ℕ) (M : Made) (b : Bool) (e : b ≡ is_clear f) where
  pub if-clear : b ≡ true → (r : Got) (l' : List ℕ) → Makes M r l' → Makes (if_clear f k q t l M) r l'
  unfolding if_clear
  if-clear h r l' m = go f (sym e ∙ h)
    where
      go : (f : Fault) → is_clear f ≡ true → Makes (if_clear f k q t l M) r l'
      go Clear h = m
      go Kind h = absurd (false-true h)
      go Name h = absurd (false-true h)
      go Form h = absurd (false-true h)

  pub if-fault : b ≡ false → (r : Got) → r ≡ failed_got f k q t → Makes (if_clear f k q t l M) r l
  unfolding if_clear
  if-fault h r g = go f (sym e ∙ h) g
    where
      go : (f : Fault) → is_clear f ≡ false → r ≡ failed_got f k q t → Makes (if_clear f k q t l M) r l
      go Clear h g = absurd (false-true (sym h))
      go Kind h g = record { given = g; left = refl }
      go Name h g = record { given = g; left = refl }
      go Form h g = record { given = g; left = refl }

-- ---- integers in 32 bits

narrow-negative : (n : ℕ) → inside least most (negsuc n) ≡ true → n ≤ 2147483647
unfolding inside
narrow-negative n h = leb-true n 2147483647 ((and-eq-true_iff (le_z least (negsuc n)) _).0 h).0

narrow-positive : (n : ℕ) → inside least most (pos n) ≡ true → n ≤ 2147483647
unfolding inside
narrow-positive n h = leb-true n 2147483647 h

turned : (n : ℕ) → (negsuc 0 -ℤ negsuc n) ≡ pos n
turned n = rw (le-ltb (suc n) 1 (omega arith)) (ap pos (omega arith))

bits_below : (z : ℤ) → lt_z z (pos 0) ≡ true → IsBits z (4294967295 - pattern_of (negsuc 0 -ℤ z))
unfolding bits pattern_of
bits_below (pos n) h = absurd (not-suc-le-zero (ltb-true n 0 h))
bits_below (negsuc n) h = record { is-bits = λ i. let e : n % 4294967296 ≡ n = mod-eq_of_lt (omega (arith, narrow-negative n i)) in rw (turned n, e) refl }

bits_above : (z : ℤ) → lt_z z (pos 0) ≡ false → IsBits z (pattern_of z)
unfolding bits pattern_of
bits_above (pos n) h = record { is-bits = λ i. mod-eq_of_lt (omega (arith, narrow-positive n i)) }
bits_above (negsuc n) h = absurd (true≢false h)

-- the same of what is read back from the bits of a signed local
module _ (z : ℤ) (h : SFits w64 z) where
  pub bits-turns : lt_z (wire z) (pos 0) ≡ true → SFits w64 (negsuc 0 -ℤ wire z)
  bits-turns e = rw (to_z-of_z h) (go z h (rw (to_z-of_z h) at e))
    where
      go : (z : ℤ) → SFits w64 z → lt_z z (pos 0) ≡ true → SFits w64 (negsuc 0 -ℤ z)
      go (pos n) h e = absurd (not-suc-le-zero (ltb-true n 0 e))
      go (negsuc n) h e = rw (turned n) (record { sfits = h.sfits })

  pub bits-negative : (p : ℕ) → lt_z (wire z) (pos 0) ≡ true → p ≡ pattern_of (wire (negsuc 0 -ℤ wire z)) → IsBits z (4294967295 - p)
  bits-negative p e k = let d = rw (to_z-of_z h) at e in rw (k, to_z-of_z (bits-turns e), to_z-of_z h) (bits_below z d)

  pub bits-natural : (p : ℕ) → lt_z (wire z) (pos 0) ≡ false → p ≡ pattern_of (wire z) → IsBits z p
  bits-natural p e k = let d = rw (to_z-of_z h) at e in rw (k, to_z-of_z h) (bits_above z d)

pub ruleset bits_laws = (bits-negative, bits-natural)

-- a constant
module _ (k : ℕ) (z : ℤ) (q t : ℕ) (l : List ℕ) (b : Bool) (r : Got) (fit : SFits w64 z) (e : b ≡ inside least most (wire z)) where
  pub literal-in : (n : ℕ) (l' : List ℕ) → b ≡ true → IsBits (wire z) n → Makes (node_made k q (lay (1 ∷ n ∷ []) t l)) r l' → Makes (literal_made k z q t l) r l'
  unfolding literal_made
  literal-in n l' h i m = let f = rw (to_z-of_z fit) at (sym e ∙ h) in let j = rw (to_z-of_z fit) at i in rw (f, ← j.is-bits f) m

  pub literal-out : b ≡ false → r ≡ failed_got Kind 0 q t → Makes (literal_made k z q t l) r l
  unfolding literal_made
  literal-out h g = let f = rw (to_z-of_z fit) at (sym e ∙ h) in rw f (record { given = g; left = refl })

pub ruleset literal_laws = (literal-in, literal-out)
