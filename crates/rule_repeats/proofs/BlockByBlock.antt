-- Names compared block by block: a block is filled, the names after it are compared with it, and the next block begins after it.
use mathlib.Core.Path.{◌≡◌, refl, sym, ap, subst, ◌∙◌}
use mathlib.Core.Bool.{Bool, true, false, not, ◌&&◌, ◌||◌}
use mathlib.Core.List.{List, [], ◌∷◌, ◌++◌}
use Prim.Native.Nat.{ℕ, suc, ◌+◌, ◌<◌, ◌≤◌}
use native.Mathlib.Decide.{dec_lt}
use native.Mathlib.Omega.{arith}
use lib.ListN.{length, get_or, set, take, drop, length-set, length-drop, take-append-drop}
use lib.Seq.{take-suc, drop-drop, get_or-drop, get_or-set_same, get_or-set_other}
use Rattle.std.specs.Prelude.{Option as Maybe, Some, None}
use Rattle.law.specs.Base.{Name}
use Rattle.rule_repeats.specs.declared.leads.Lead.{Lead}
use Rattle.rule_repeats.specs.Keys.{low_of, high_of, name_at}
use Rattle.rule_repeats.specs.Leads.{leads_at, LeadIs, Nexts}
use Rattle.rule_repeats.specs.Blocks.{among, apart, meets, Block, Meets, Held, Fills, ComesAgain}
use Rattle.rule_repeats.proofs.NamesApart.{apart-append}

-- each name makes those that are left one fewer
pub names-fewer : (s : List ℕ) (p : ℕ) (y : Maybe (Lead × ℕ)) → Nexts s p y → (x : Lead) (q : ℕ) → y ≡ Some (x, q) → length (leads_at s q) < length (leads_at s p)
names-fewer s p y N x q e = let g = rw e at N.says in let z = ap length g.0 in omega arith

-- ---- `fill_block`

pub record Filling (s : List ℕ) (at : ℕ) (ls hs : List ℕ) (n p : ℕ) : Type 0 where
  pub long-lows : length ls ≡ 256
  pub long-highs : length hs ≡ 256
  pub held : Held s at n p ls hs

pub fill_start : (s : List ℕ) (at : ℕ) (ls hs : List ℕ) → (length ls ≡ 256) × (length hs ≡ 256) → Filling s at ls hs 0 at
unfolding apart
fill_start s at ls hs h = record {
  long-lows = h.0;
  long-highs = h.1;
  held = record {
    block = record { few = omega arith; lows = λ j i. absurd (omega arith); highs = λ j i. absurd (omega arith) };
    within = omega arith;
    split = refl;
    once = refl;
  };
}

-- one more number of a list
more-keys : (f : Name → ℕ) (ls : List ℕ) (n v : ℕ) (ws : List Name) → n < length ls → ((j : ℕ) → j < n → get_or ls j 0 ≡ f (get_or ws j [])) → v ≡ f (get_or ws n [])
    → (j : ℕ) → j < n + 1 → get_or (set ls n v) j 0 ≡ f (get_or ws j [])
more-keys f ls n v ws h g e j l = go (dec_lt j n)
  where
    go : Dec (j < n) → get_or (set ls n v) j 0 ≡ f (get_or ws j [])
    go (yes k) = get_or-set_other ls n j v 0 (omega arith) ∙ g j k
    go (no k) = let z : n ≡ j = omega arith in ap (λ (i : ℕ). get_or (set ls n v) i 0) (sym z) ∙ get_or-set_same ls n v 0 h ∙ e ∙ ap (λ (i : ℕ). f (get_or ws i [])) z

module _ (s : List ℕ) (at : ℕ) (ls hs : List ℕ) (n p : ℕ) (I : Filling s at ls hs n p) where
  abbrev ns : List Name
  ns = leads_at s at

  pub fill-full : 256 ≤ n → Fills s at (Some (256, p)) ls hs
  fill-full h =
      let z : n ≡ 256 = let f = I.held.block.few in omega arith in
      let held : Held s at 256 p ls hs = subst (λ (j : ℕ). Held s at j p ls hs) z I.held in
      record { long-lows = I.long-lows; long-highs = I.long-highs; says = (held, λ e. absurd (omega arith)) }

  module _ (y : Maybe (Lead × ℕ)) (N : Nexts s p y) where
    pub fill_end : y ≡ None → Fills s at (Some (n, p)) ls hs
    fill_end e = let g = rw e at N.says in record {
      long-lows = I.long-lows;
      long-highs = I.long-highs;
      says = (I.held, λ z. sym (ap (λ (j : ℕ). drop j ns) z) ∙ I.held.split ∙ g);
    }

    module _ (x : Lead) (q : ℕ) (e : y ≡ Some (x, q)) (t : Bool) (M : Meets s ls hs at n x t) where
      abbrev w : Name
      w = name_at s x.at

      rest : drop n ns ≡ (w ∷ leads_at s q)
      rest = let g = rw e at N.says in I.held.split ∙ g.0

      lead : LeadIs s x
      lead = let g = rw e at N.says in g.1

      among-is : t ≡ among w (take n ns)
      among-is = M.says I.held.block lead

      inside : n < length ns
      inside = let z = ap length rest in let l = length-drop n ns in omega arith

      here : get_or ns n [] ≡ w
      here = let z : n + 0 ≡ n = omega arith in sym (get_or-drop n ns 0 [] ∙ ap (λ (i : ℕ). get_or ns i []) z) ∙ ap (λ (ws : List Name). get_or ws 0 []) rest

      whole : ns ≡ (take n ns ++ (w ∷ leads_at s q))
      whole = sym (take-append-drop n ns) ∙ ap (λ (ws : List Name). take n ns ++ ws) rest

      again-bits : (a b : Bool) → ((a && not true) && b) ≡ false
      again-bits true b = refl
      again-bits false b = refl

      pub fill-again : t ≡ true → Fills s at None ls hs
      unfolding meets
      fill-again h = record {
        long-lows = I.long-lows;
        long-highs = I.long-highs;
        says = ap apart whole ∙ apart-append (take n ns) (w ∷ leads_at s q)
            ∙ ap (λ (b : Bool). (apart (take n ns) && not (b || meets (leads_at s q) (take n ns))) && apart (w ∷ leads_at s q)) (sym among-is ∙ h)
            ∙ again-bits (apart (take n ns)) (apart (w ∷ leads_at s q));
      }

      one_more : take (n + 1) ns ≡ (take n ns ++ (w ∷ []))
      one_more = let z : n + 1 ≡ suc n = omega arith in ap (λ (j : ℕ). take j ns) z ∙ take-suc ns n [] inside ∙ ap (λ (v : Name). take n ns ++ (v ∷ [])) here

      pub fill_on : t ≡ false → n < 256 → Filling s at (set ls n x.low) (set hs n x.high) (n + 1) q
      unfolding meets apart among
      fill_on h l = record {
        long-lows = length-set ls n x.low ∙ I.long-lows;
        long-highs = length-set hs n x.high ∙ I.long-highs;
        held = record {
          block = record {
            few = omega arith;
            lows = more-keys low_of ls n x.low ns (let z = I.long-lows in omega arith) I.held.block.lows (lead.low-is ∙ ap low_of (sym here));
            highs = more-keys high_of hs n x.high ns (let z = I.long-highs in omega arith) I.held.block.highs (lead.high_is ∙ ap high_of (sym here));
          };
          within = let z = inside in omega arith;
          split = sym (drop-drop 1 n ns) ∙ ap (drop 1) rest;
          once = ap apart one_more ∙ apart-append (take n ns) (w ∷ [])
              ∙ ap (λ (b : Bool). (apart (take n ns) && not (b || false)) && true) (sym among-is ∙ h) ∙ ap (λ (b : Bool). (b && true) && true) I.held.once;
        };
      }

pub ruleset fill_laws = (fill_start, fill-full, fill_end, fill-again, fill_on)

-- ---- `comes_again`

-- no name from `at` to p is one of the block
pub record Seeking (s ls hs : List ℕ) (from n at p : ℕ) : Type 0 where
  pub sought : Block s from n ls hs → meets (leads_at s at) (take n (leads_at s from)) ≡ meets (leads_at s p) (take n (leads_at s from))

pub seek-start : (s ls hs : List ℕ) (from n at : ℕ) → Seeking s ls hs from n at at
seek-start s ls hs from n at = record { sought = λ B. refl }

module _ (s ls hs : List ℕ) (from n at p : ℕ) (I : Seeking s ls hs from n at p) (y : Maybe (Lead × ℕ)) (N : Nexts s p y) where
  abbrev bs : List Name
  bs = take n (leads_at s from)

  pub seek-end : y ≡ None → ComesAgain s ls hs from n at false
  unfolding meets
  seek-end e = let g = rw e at N.says in record { says = λ B. sym (I.sought B ∙ ap (λ (ws : List Name). meets ws bs) g) }

  module _ (x : Lead) (q : ℕ) (e : y ≡ Some (x, q)) (t : Bool) (M : Meets s ls hs from n x t) where
    seen : Block s from n ls hs → meets (leads_at s at) bs ≡ (t || meets (leads_at s q) bs)
    unfolding meets
    seen B = let g = rw e at N.says in
        I.sought B ∙ ap (λ (ws : List Name). meets ws bs) g.0 ∙ ap (λ (b : Bool). b || meets (leads_at s q) bs) (sym (M.says B g.1))

    pub seek_found : t ≡ true → ComesAgain s ls hs from n at true
    seek_found h = record { says = λ B. sym (seen B ∙ ap (λ (b : Bool). b || meets (leads_at s q) bs) h) }

    pub seek-on : t ≡ false → Seeking s ls hs from n at q
    seek-on h = record { sought = λ B. seen B ∙ ap (λ (b : Bool). b || meets (leads_at s q) bs) h }

pub ruleset seek_laws = (seek-start, names-fewer, seek-end, seek_found, seek-on)

-- ---- `differ_from`

-- the names from p on tell whether those from `at` on differ
pub record Clearing (s : List ℕ) (at : ℕ) (ls hs : List ℕ) (p : ℕ) : Type 0 where
  pub long : (length ls ≡ 256) × (length hs ≡ 256)
  pub cleared : apart (leads_at s at) ≡ apart (leads_at s p)

pub clear-start : (s : List ℕ) (at : ℕ) (ls hs : List ℕ) → (length ls ≡ 256) × (length hs ≡ 256) → Clearing s at ls hs at
clear-start s at ls hs h = record { long = h; cleared = refl }

module _ (s : List ℕ) (at : ℕ) (ls hs : List ℕ) (p : ℕ) (I : Clearing s at ls hs p) where
  pub clear-long : (length ls ≡ 256) × (length hs ≡ 256)
  clear-long = I.long

  module _ (f : Maybe (ℕ × ℕ)) (ls' hs' : List ℕ) (F : Fills s p f ls' hs') where
    pub clear-again : f ≡ None → false ≡ apart (leads_at s at)
    clear-again e = let g = rw e at F.says in sym (I.cleared ∙ g)

    module _ (n q : ℕ) (e : f ≡ Some (n, q)) where
      pub clear-end : n ≡ 0 → true ≡ apart (leads_at s at)
      unfolding apart
      clear-end h = let g = rw e at F.says in sym (I.cleared ∙ ap apart (g.1 h))

      -- a block that is not empty makes the names that are left fewer
      pub clear-fewer : (n ≡ 0 → ⊥) → length (leads_at s q) < length (leads_at s p)
      clear-fewer h = let g = rw e at F.says in
          let z = sym (length-drop n (leads_at s p)) ∙ ap length g.0.split in
          omega (arith, g.0.within)

      module _ (t : Bool) (C : ComesAgain s ls' hs' p n q t) where
        bits : (a b c : Bool) → a ≡ true → ((a && b) && c) ≡ (b && c)
        bits true b c h = refl
        bits false b c h = absurd (let z : ◌≡◌ {A = ℕ} 0 1 = cc in omega arith)

        after : apart (leads_at s at) ≡ (not t && apart (leads_at s q))
        after = let g = rw e at F.says in
            let whole = sym (take-append-drop n (leads_at s p)) ∙ ap (λ (ws : List Name). take n (leads_at s p) ++ ws) g.0.split in
            I.cleared ∙ ap apart whole ∙ apart-append (take n (leads_at s p)) (leads_at s q)
            ∙ bits (apart (take n (leads_at s p))) (not (meets (leads_at s q) (take n (leads_at s p)))) (apart (leads_at s q)) g.0.once
            ∙ ap (λ (b : Bool). not b && apart (leads_at s q)) (sym (C.says g.0.block))

        pub clear-found : t ≡ true → false ≡ apart (leads_at s at)
        clear-found h = sym (after ∙ ap (λ (b : Bool). not b && apart (leads_at s q)) h)

        pub clear-on : t ≡ false → Clearing s at ls' hs' q
        clear-on h = record { long = (F.long-lows, F.long-highs); cleared = after ∙ ap (λ (b : Bool). not b && apart (leads_at s q)) h }

pub ruleset clear_laws = (clear-start, clear-long, clear-fewer, clear-again, clear-end, clear-found, clear-on)

-- ---- `differ_too`

pub too-first : (a b r : Bool) → a ≡ true → r ≡ b → r ≡ (a && b)
too-first a b r e h = rw e h

pub too-none : (a b : Bool) → a ≡ false → false ≡ (a && b)
too-none a b e = rw e refl

pub ruleset too_laws = (too-first, too-none)
