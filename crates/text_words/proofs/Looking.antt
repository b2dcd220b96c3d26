-- The ways through `look` and `word_end`.
use mathlib.Core.Path.{◌≡◌, refl, sym, ap, ◌∙◌}
use mathlib.Core.List.{List, [], ◌∷◌, ◌++◌, append-nil}
use Prim.Native.Nat.{ℕ, suc, ◌+◌, ◌-◌, ◌<◌, ◌≤◌}
use native.Mathlib.Decide.{dec_lt}
use native.Mathlib.Omega.{arith}
use lib.ListN.{length, get_or, take, drop, length-drop}
use lib.Seq.{take-suc, get_or-drop, append_snoc}
use Rattle.leaf_bytes.specs.declared.bytes.Class.{Class}
use Rattle.leaf_bytes.specs.declared.bytes.Class.TheVariants.{Feed, Space, Open, Close, Visible, Refused}
use Rattle.leaf_words.specs.declared.words.Word.{Word}
use Rattle.leaf_words.specs.declared.words.Word.TheVariants.{Unknown}
use Rattle.leaf_bytes.specs.Bytes.{class_of, bytes, same}
use Rattle.leaf_bytes.specs.Names.{is_name}
use Rattle.leaf_words.specs.Numbers.{number_of}
use Rattle.leaf_reserved.specs.Table.{place_of, position, fixed, reserved, operators}
use Rattle.leaf_words.specs.Words.{word_of, named, placed}
use Rattle.law.specs.Trees.{Trees, Run, word_at}
use Rattle.law_theorems.specs.Readings.{rest_at, stack_at}
use Rattle.law_theorems.proofs.Reading.{none-stack, none-word, wordless, space-stack, open-stack, close-stack, feed-stack, refused-stack, word-stack, word-rest, word-word, space-word, open-word, close-word, feed-word, refused-word}
use Rattle.text_words.specs.declared.sight.Sight.TheVariants.{Form, Leaf, Shut}
use Rattle.text_words.specs.Sights.{Looks, Ends, Reads}

-- ---- `look`: k₀ is what stands where it began
module _ (s : List ℕ) (p : ℕ) (k₀ : List (Trees Run)) (i : k₀ ≡ stack_at s p) where
  pub look_none : length s ≤ p → (q : ℕ) → length s ≤ q → Looks s k₀ (Shut q)
  look_none h q g = record { says = (rw (i, none-stack s p h), rw (i, none-stack s p h, none-stack s q g)); past = tt }

  module _ (k : Class) (h : p < length s) (e : k ≡ class_of (get_or s p 0)) where
    pub look-space : k ≡ Space → k₀ ≡ stack_at s (p + 1)
    look-space c = i ∙ space-stack s p k h e c

    pub look-open : k ≡ Open → Looks s k₀ (Form (p + 1))
    look-open c = record { says = i ∙ open-stack s p k h e c; past = (omega arith, omega arith) }

    pub look-close : k ≡ Close → Looks s k₀ (Shut (p + 1))
    look-close c = record { says = (rw (i, close-stack s p k h e c), rw (i, close-stack s p k h e c)); past = tt }

    pub look-feed : k ≡ Feed → Looks s k₀ (Shut p)
    look-feed c = record { says = (rw (i, feed-stack s p k h e c), rw (i, feed-stack s p k h e c)); past = tt }

    pub look-refused : k ≡ Refused → Looks s k₀ (Shut p)
    look-refused c = record { says = (rw (i, refused-stack s p k h e c), rw (i, refused-stack s p k h e c)); past = tt }

    pub look-word : k ≡ Visible → Looks s k₀ (Leaf p)
    look-word c = record { says = (i ∙ word-stack s p k h e c, h); past = tt }

pub ruleset look-laws = (look_none, look-space, look-open, look-close, look-feed, look-refused, look-word)

-- ---- `word_end`: from `at` to p the word goes on
pub record Going (s : List ℕ) (at p : ℕ) : Type 0 where
  pub after : at ≤ p
  pub short : at ≤ length s → p ≤ length s
  pub bytes : word_at s at ≡ take (p - at) (drop at s) ++ word_at s p
  pub rest : rest_at s at ≡ rest_at s p

pub going_start : (s : List ℕ) (at : ℕ) → Going s at at
going_start s at = record { after = omega arith; short = λ h. h; bytes = let z : at - at ≡ 0 = omega arith in rw z refl; rest = refl }

module _ (s : List ℕ) (at p : ℕ) (g : Going s at p) where
  stops : word_at s p ≡ [] → Ends s at p
  stops e = record { after = g.after; short = g.short; bytes = g.bytes ∙ rw e (append-nil (take (p - at) (drop at s))); rest = wordless s p e ∙ sym g.rest }

  pub end_none : length s ≤ p → Ends s at p
  end_none h = stops (none-word s p h)

  module _ (k : Class) (h : p < length s) (e : k ≡ class_of (get_or s p 0)) where
    -- one byte more
    longer : take (p + 1 - at) (drop at s) ≡ take (p - at) (drop at s) ++ (get_or s p 0 ∷ [])
    longer =
        let n : p + 1 - at ≡ suc (p - at) = omega (arith, g.after) in
        let i : at + (p - at) ≡ p = omega (arith, g.after) in
        rw n (take-suc (drop at s) (p - at) 0 (rw (length-drop at s) (omega (arith, g.after)))
        ∙ ap (λ (b : ℕ). take (p - at) (drop at s) ++ (b ∷ [])) (get_or-drop at s (p - at) 0 ∙ ap (λ (j : ℕ). get_or s j 0) i))

    pub going_on : k ≡ Visible → Going s at (p + 1)
    going_on c = record {
      after = omega (arith, g.after);
      short = λ _. omega arith;
      bytes = g.bytes ∙ rw (word-word s p k h e c, longer) (sym (append_snoc (take (p - at) (drop at s)) (get_or s p 0) (word_at s (p + 1))));
      rest = g.rest ∙ word-rest s p k h e c;
    }

    pub end_other : ((k ≡ Visible) → ⊥) → Ends s at p
    end_other n = go k refl
      where
        go : (c : Class) → k ≡ c → Ends s at p
        go Visible c = absurd (n c)
        go Space c = stops (space-word s p k h e c)
        go Open c = stops (open-word s p k h e c)
        go Close c = stops (close-word s p k h e c)
        go Feed c = stops (feed-word s p k h e c)
        go Refused c = stops (refused-word s p k h e c)

pub ruleset end-laws = (end_none, going_on, end_other)

-- ---- `word_at`
pub end_after : (s : List ℕ) (at q : ℕ) → Ends s at q → at ≤ q
end_after s at q g = g.after

pub end_short : (s : List ℕ) (at q : ℕ) → Ends s at q → at ≤ length s → q ≤ length s
end_short s at q g h = g.short h

module _ (s : List ℕ) (at : ℕ) where
  nothing_said : Unknown ≡ word_of []
  unfolding word_of placed place_of position fixed reserved operators bytes same is_name named number_of
  nothing_said = refl

  pub read_none : length s < at → Reads s at (record { word = Unknown; next = at })
  read_none h = record {
    said = nothing_said ∙ ap word_of (sym (none-word s at (omega arith)));
    rest = wordless s at (none-word s at (omega arith));
    moves = λ n. absurd (n (none-word s at (omega arith)));
  }

  pub read_word : (q : ℕ) (w : Word) → Ends s at q → w ≡ word_of (take (q - at) (drop at s)) → Reads s at (record { word = w; next = q })
  read_word q w g e = record { said = e ∙ ap word_of (sym g.bytes); rest = g.rest; moves = λ n. go n (dec_lt at q) }
    where
      go : ((word_at s at ≡ []) → ⊥) → Dec (at < q) → at < q
      go n (yes h) = h
      go n (no h) = let z : q - at ≡ 0 = omega (arith, h) in absurd (n (g.bytes ∙ rw z refl))

pub ruleset read-laws = (read_none, read_word)
