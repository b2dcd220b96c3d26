-- What laying does to the working list, by regions: how the facts about a construct's layout follow from those about its parts.
use mathlib.Core.Path.{◌≡◌, refl, ap, ◌∙◌}
use mathlib.Core.Bool.{Bool, true, false, cond}
use mathlib.Core.List.{List, [], ◌∷◌, ◌++◌}
use Prim.Native.Nat.{ℕ, zero, suc, ◌+◌, ◌<◌, ◌≤◌}
use native.Mathlib.Omega.{arith}
use borrow.Author.Tests.{le-leb, leb-true}
use lib.Dec.{leb}
use lib.ListN.{length, get_or, set, length-set, length-append, get_or-append}
use lib.Seq as Seq
use lib.Seq.{get_or-set_same, get_or-set_other, get_or-append_seam, length-sets}
use Rattle.code.specs.Layout.{room, Out, out, lay, link}
use Rattle.code.specs.LayoutRegions.{Room, Same}

-- ---- numbers written in a row

pub sets_below : (ns : List ℕ) (l : List ℕ) (t i : ℕ) → i < t → get_or (Seq.sets l t ns) i 0 ≡ get_or l i 0
sets_below [] l t i h = refl
sets_below (n ∷ ns) l t i h = sets_below ns (set l t n) (suc t) i (omega arith) ∙ get_or-set_other l t i n 0 (omega arith)

pub sets-at : (ns : List ℕ) (l : List ℕ) (t i : ℕ) → t + length ns ≤ length l → i < length ns → get_or (Seq.sets l t ns) (t + i) 0 ≡ get_or ns i 0
sets-at [] l t i g h = absurd (omega arith)
sets-at (n ∷ ns) l t zero g h =
    ap (λ k. get_or (Seq.sets (set l t n) (suc t) ns) k 0) (omega arith)
    ∙ sets_below ns (set l t n) (suc t) t (omega arith)
    ∙ get_or-set_same l t n 0 (omega arith)
sets-at (n ∷ ns) l t (suc i) g h =
    ap (λ k. get_or (Seq.sets (set l t n) (suc t) ns) k 0) (omega arith)
    ∙ sets-at ns (set l t n) (suc t) i (omega (arith, length-set l t n)) (omega arith)

-- ---- what holds of every layout, also where it saturates

-- laying from t on gives o: the free place never falls, nor passes the room's end; the length and what is below t stay
pub record Grows (t : ℕ) (l : List ℕ) (o : Out) : Type 0 where
  pub up : t ≤ o.top
  pub low : t ≤ room → o.top ≤ room
  pub long : length o.list ≡ length l
  pub below : (i : ℕ) → i < t → get_or o.list i 0 ≡ get_or l i 0

-- the same of a chain from the slot s on, which is written
pub record GrowsBut (s t : ℕ) (l : List ℕ) (o : Out) : Type 0 where
  pub up : t ≤ o.top
  pub low : t ≤ room → o.top ≤ room
  pub long : length o.list ≡ length l
  pub below : (i : ℕ) → i < t → (i ≡ s → ⊥) → get_or o.list i 0 ≡ get_or l i 0

module _ (ns : List ℕ) (t : ℕ) (l : List ℕ) where
  pub lay-g : Grows t l (lay ns t l)
  unfolding lay
  lay-g = go (leb (t + length ns) room) refl
    where
      go : (b : Bool) → leb (t + length ns) room ≡ b → Grows t l (out t (cond b (t + length ns) t) (cond b (Seq.sets l t ns) l))
      go true e = record {
        up = omega arith;
        low = λ h. leb-true (t + length ns) room e;
        long = length-sets l t ns;
        below = λ i h. sets_below ns l t i h;
      }
      go false e = record { up = omega arith; low = λ h. h; long = refl; below = λ i h. refl }

  -- what is laid stands at or below the free place
  pub lay-pos : (lay ns t l).pos ≤ (lay ns t l).top
  unfolding lay
  lay-pos = lay-g.up

then-g : {t : ℕ} {l : List ℕ} {x y : Out} → Grows t l x → Grows x.top x.list y → Grows t l y
then-g a b = record {
  up = omega (arith, a.up, b.up);
  low = λ h. b.low (a.low h);
  long = b.long ∙ a.long;
  below = λ i h. b.below i (omega (arith, a.up)) ∙ a.below i h;
}

-- a slot and its chain
slot-g : {t : ℕ} {l : List ℕ} {m : Out} → GrowsBut t (lay (0 ∷ []) t l).top (lay (0 ∷ []) t l).list m → Grows t l m
slot-g {t} {l} b =
    let a : Grows t l (lay (0 ∷ []) t l) = lay-g (0 ∷ []) t l in
    record {
      up = omega (arith, a.up, b.up);
      low = λ h. b.low (a.low h);
      long = b.long ∙ a.long;
      below = λ i h. b.below i (omega (arith, a.up)) (omega arith) ∙ a.below i h;
    }

-- a link that ends in the next slot, and the chain from there on
link-g : {s t : ℕ} {l : List ℕ} {x z : Out} (ms : List ℕ) → Grows t l x
    → GrowsBut (x.top + length ms) (link s (lay (ms ++ 0 ∷ []) x.top x.list)).top (link s (lay (ms ++ 0 ∷ []) x.top x.list)).list z
    → GrowsBut s t l z
unfolding link lay
link-g {s} {t} {l} {x} ms a b =
    let ns = ms ++ 0 ∷ [] in
    let y = lay ns x.top x.list in
    let c : Grows x.top x.list y = lay-g ns x.top x.list in
    record {
      up = omega (arith, a.up, b.up, c.up);
      low = λ h. b.low (c.low (a.low h));
      long = b.long ∙ length-set y.list s x.top ∙ c.long ∙ a.long;
      below = λ i h n.
          b.below i (omega (arith, a.up, c.up)) (omega (arith, a.up))
          ∙ get_or-set_other y.list s i x.top 0 n
          ∙ c.below i (omega (arith, a.up))
          ∙ a.below i h;
    }

-- ---- what holds where there is room

-- laying from t on gives o; if there is room for n numbers, it takes so many, and Q holds of every list that agrees with it on them
pub record Lays (n t : ℕ) (l : List ℕ) (o : Out) (Q : List ℕ → Type 0) : Type 0 where
  pub grows : Grows t l o
  pub top-is : t + n ≤ room → o.top ≡ t + n
  pub held : Room n t l → (l' : List ℕ) → Same t o.top l' o.list → Q l'

-- a slot below t that is free
pub record Slot (s t : ℕ) (l : List ℕ) : Type 0 where
  pub under : s < t
  pub free : get_or l s 0 ≡ 0

-- the same of a chain: Q holds of lists that agree with it at the slot too
pub record Chains (n s t : ℕ) (l : List ℕ) (o : Out) (Q : List ℕ → Type 0) : Type 0 where
  pub grows : GrowsBut s t l o
  pub top-is : t + n ≤ room → o.top ≡ t + n
  pub held : Room n t l → Slot s t l → (l' : List ℕ) → get_or l' s 0 ≡ get_or o.list s 0 → Same t o.top l' o.list → Q l'

-- a list has these numbers from p on, which is not place 0
pub record Has (ns : List ℕ) (p : ℕ) (l : List ℕ) : Type 0 where
  pub later : 1 ≤ p
  pub at : (i : ℕ) → i < length ns → get_or l (p + i) 0 ≡ get_or ns i 0

pub lay-l : (ns : List ℕ) (t : ℕ) (l : List ℕ) → Lays (length ns) t l (lay ns t l) (Has ns t)
unfolding lay
lay-l ns t l = record {
  grows = lay-g ns t l;
  top-is = λ h. rw (le-leb (t + length ns) room h);
  held = λ r l' e. record {
    later = r.start;
    at = λ i h.
        e.at (t + i) (omega arith) (rw (le-leb (t + length ns) room r.fits) (omega arith))
        ∙ rw (le-leb (t + length ns) room r.fits) (sets-at ns l t i (omega (arith, r.fits, r.long)) h);
  };
}

-- nothing is laid
pub none-l : {t p : ℕ} {l : List ℕ} → Lays 0 t l (out p t l) (λ _. Unit {0})
none-l {t} {l} = record {
  grows = record { up = omega arith; low = λ h. h; long = refl; below = λ i h. refl };
  top-is = λ h. omega arith;
  held = λ r l' e. tt;
}

-- the end of a chain
pub end-c : {s t p : ℕ} {l : List ℕ} → Chains 0 s t l (out p t l) (λ l'. get_or l' s 0 ≡ 0)
end-c {s} {t} {l} = record {
  grows = record { up = omega arith; low = λ h. h; long = refl; below = λ i h n. refl };
  top-is = λ h. omega arith;
  held = λ r f l' e g. e ∙ f.free;
}

pub map-l : {n t : ℕ} {l : List ℕ} {o : Out} {Q R : List ℕ → Type 0} → Lays n t l o Q → ((l' : List ℕ) → Q l' → R l') → Lays n t l o R
map-l a f = record { grows = a.grows; top-is = a.top-is; held = λ r l' e. f l' (a.held r l' e) }

-- with where it ends
pub top-l : {n t : ℕ} {l : List ℕ} {o : Out} {Q : List ℕ → Type 0} → Lays n t l o Q → Lays n t l o (λ l'. Q l' × (o.top ≡ t + n))
top-l a = record { grows = a.grows; top-is = a.top-is; held = λ r l' e. (a.held r l' e, a.top-is r.fits) }

-- what it gives as its place is of no matter
pub moved-l : {n t p : ℕ} {l : List ℕ} {o : Out} {Q : List ℕ → Type 0} → Lays n t l o Q → Lays n t l (out p o.top o.list) Q
moved-l a = record { grows = record { up = a.grows.up; low = a.grows.low; long = a.grows.long; below = a.grows.below }; top-is = a.top-is; held = a.held }

pub map-c : {n s t : ℕ} {l : List ℕ} {o : Out} {Q R : List ℕ → Type 0} → Chains n s t l o Q → ((l' : List ℕ) → Q l' → R l') → Chains n s t l o R
map-c a f = record { grows = a.grows; top-is = a.top-is; held = λ r g l' h e. f l' (a.held r g l' h e) }

-- the room that is left after n numbers
rest : {n k t : ℕ} {l : List ℕ} {x : Out} {Q : List ℕ → Type 0} → Lays n t l x Q → Room (n + k) t l → Room k x.top x.list
rest {n} {k} {t} a r = record {
  start = omega (arith, r.start, a.grows.up);
  fits = rw (a.top-is (omega (arith, r.fits))) (omega (arith, r.fits));
  long = omega (arith, r.long, a.grows.long);
}

first : {n t : ℕ} {l : List ℕ} (k : ℕ) → Room (n + k) t l → Room n t l
first {n} {t} k r = record { start = r.start; fits = omega (arith, r.fits); long = r.long }

infixl 20 ◌next◌
-- one construct after another
pub ◌next◌ : {n k t : ℕ} {l : List ℕ} {x y : Out} {Q R : List ℕ → Type 0} → Lays n t l x Q → Lays k x.top x.list y R → Lays (n + k) t l y (λ l'. Q l' × R l')
◌next◌ {n} {k} {t} a b = record {
  grows = then-g a.grows b.grows;
  top-is = λ h.
      let e = a.top-is (omega arith) in
      b.top-is (omega (arith, e)) ∙ omega (arith, e);
  held = λ r l' e. (
    a.held (first k r) l' (record { at = λ i h j. e.at i h (omega (arith, b.grows.up)) ∙ b.grows.below i j }),
    b.held (rest a r) l' (record { at = λ i h j. e.at i (omega (arith, a.grows.up)) j }),
  );
}

-- a slot, which is not place 0, and its chain
pub slot-l : {n t : ℕ} {l : List ℕ} {m : Out} {Q : List ℕ → Type 0} → Chains n t (lay (0 ∷ []) t l).top (lay (0 ∷ []) t l).list m Q
    → Lays (1 + n) t l m (λ l'. (1 ≤ t) × Q l')
slot-l {n} {t} {l} {m} b =
    let a : Lays 1 t l (lay (0 ∷ []) t l) (Has (0 ∷ []) t) = lay-l (0 ∷ []) t l in
    record {
      grows = slot-g b.grows;
      top-is = λ h. let e = a.top-is (omega arith) in b.top-is (omega (arith, e)) ∙ omega (arith, e);
      held = λ r l' e.
          let f = a.top-is (omega (arith, r.fits)) in
          let g : get_or (lay (0 ∷ []) t l).list (t + 0) 0 ≡ 0 = (a.held (first n r) (lay (0 ∷ []) t l).list (record { at = λ i h j. refl })).at 0 (omega arith) in (
            r.start,
            b.held (rest a r) (record { under = omega (arith, f); free = ap (λ k. get_or (lay (0 ∷ []) t l).list k 0) (omega arith) ∙ g }) l'
                (e.at t (omega arith) (omega (arith, f, b.grows.up))) (record { at = λ i h j. e.at i (omega (arith, f)) j }),
          );
    }

-- what a list has of a link at u: the slot before it, its parts
pub record Linked (ms : List ℕ) (s u : ℕ) (l : List ℕ) : Type 0 where
  pub from : get_or l s 0 ≡ u
  pub parts : Has ms u l

-- parts, their link, which ends in the next slot, and the chain from there on
pub link-c : {n k s t : ℕ} {l : List ℕ} {x z : Out} {Q R : List ℕ → Type 0} (ms : List ℕ) → Lays n t l x Q
    → Chains k (x.top + length ms) (link s (lay (ms ++ 0 ∷ []) x.top x.list)).top (link s (lay (ms ++ 0 ∷ []) x.top x.list)).list z R
    → Chains (n + suc (length ms) + k) s t l z (λ l'. Q l' × Linked ms s x.top l' × R l')
unfolding link lay
link-c {n} {k} {s} {t} {l} {x} {z} {Q} {R} ms a b =
    let ns = ms ++ 0 ∷ [] in
    let u = x.top in
    let y = lay ns u x.list in
    let N : length ns ≡ suc (length ms) = length-append ms (0 ∷ []) ∙ omega arith in
    let c : Lays (length ns) u x.list y (Has ns u) = lay-l ns u x.list in
    record {
      grows = link-g ms a.grows b.grows;
      top-is = λ h.
          let e = a.top-is (omega arith) in
          let f = c.top-is (omega (arith, e, N)) in
          b.top-is (omega (arith, e, f, N)) ∙ omega (arith, e, f, N);
      held = λ r f l' e same.
          let a-top = a.top-is (omega (arith, r.fits)) in
          let y-top = c.top-is (omega (arith, a-top, N, r.fits)) in
          let up = b.grows.up in
          let y-room : Room (length ns) u x.list = record {
            start = omega (arith, r.start, a.grows.up);
            fits = omega (arith, a-top, N, r.fits);
            long = omega (arith, r.long, a.grows.long);
          } in
          let y-has = c.held y-room y.list (record { at = λ i h j. refl }) in
          let kept : (i : ℕ) → i < y.top → (i ≡ u + length ms → ⊥) → (i ≡ s → ⊥) → get_or z.list i 0 ≡ get_or y.list i 0 =
          λ i h j n. b.grows.below i h j ∙ get_or-set_other y.list s i u 0 n in
          let long : length y.list ≡ length l = c.grows.long ∙ a.grows.long in
          let under = f.under in
          let z-room : Room k y.top (set y.list s u) = record {
            start = omega (arith, r.start, a.grows.up, c.grows.up);
            fits = omega (arith, a-top, y-top, N, r.fits);
            long = omega (arith, r.long, long, length-set y.list s u);
          } in
          let z-slot : Slot (u + length ms) y.top (set y.list s u) = record {
            under = omega (arith, y-top, N);
            free = get_or-set_other y.list s (u + length ms) u 0 (omega (arith, a.grows.up, under)) ∙ y-has.at (length ms) (omega (arith, N)) ∙ get_or-append_seam ms 0 [] 0;
          } in (
            a.held (first (suc (length ms)) (first k r)) l' (record {
              at = λ i h j.
                  same.at i h (omega (arith, c.grows.up, up))
                  ∙ kept i (omega (arith, c.grows.up)) (omega arith) (omega (arith, under))
                  ∙ c.grows.below i j;
            }),
            record {
              from = e ∙ b.grows.below s (omega (arith, a.grows.up, c.grows.up, under)) (omega (arith, a.grows.up, under))
                  ∙ get_or-set_same y.list s u 0 (omega (arith, long, r.fits, r.long, under));
              parts = record {
                later = omega (arith, r.start, a.grows.up);
                at = λ i h.
                    same.at (u + i) (omega (arith, a.grows.up)) (omega (arith, y-top, N, up))
                    ∙ kept (u + i) (omega (arith, y-top, N)) (omega arith) (omega (arith, a.grows.up, under))
                    ∙ y-has.at i (omega (arith, N))
                    ∙ get_or-append ms (0 ∷ []) 0 i h;
              };
            },
            b.held z-room z-slot l' (same.at (u + length ms) (omega (arith, a.grows.up)) (omega (arith, y-top, N, up)))
                (record { at = λ i h j. same.at i (omega (arith, a.grows.up, c.grows.up)) j }),
          );
    }
