-- A text has no more brackets and words than bytes.
use mathlib.Core.Path.{◌≡◌, refl}
use mathlib.Core.List.{List, [], ◌∷◌}
use Prim.Native.Nat.{ℕ, suc, ◌+◌, ◌≤◌}
use native.Mathlib.Omega.{arith}
use lib.ListN.{length, drop, length-drop}
use Rattle.leaf_bytes.specs.declared.bytes.Class.{Class}
use Rattle.leaf_bytes.specs.declared.bytes.Class.TheVariants.{Feed, Space, Open, Close, Visible, Refused}
use Rattle.leaf_bytes.specs.Bytes.{class_of}
use Rattle.law.specs.Trees.{Tree, word, form, Trees, nodes, nodes_in, Run, first, later, push}
use Rattle.law_theorems.specs.Readings.{Reading, ended, with_byte, read_bytes, rest_at, stack_at}
use Rattle.text_words.specs.Passes.{nodes_all}

pub all_first : (k : List (Trees Run)) → nodes_all k ≡ nodes_in (first k) + nodes_all (later k)
unfolding nodes_all nodes
all_first [] = refl
all_first (ts ∷ k) = refl

pub all_push : (t : Tree Run) (k : List (Trees Run)) → nodes_all (push t k) ≡ nodes t + nodes_all k
unfolding nodes_all nodes
all_push t k = let e = all_first k in omega arith

-- a word that may still grow is at most one more
all-ended : (w : Run) (k : List (Trees Run)) → nodes_all k ≤ nodes_all (ended w k)
unfolding nodes
all-ended [] k = omega arith
all-ended (b ∷ w) k = let e = all_push (word (b ∷ w)) k in omega arith

all-word : (b : ℕ) (w : Run) (k : List (Trees Run)) → nodes_all (ended (b ∷ w) k) ≤ suc (nodes_all k)
unfolding nodes
all-word b w k = let e = all_push (word (b ∷ w)) k in omega arith

byte_more : (c : Class) (b : ℕ) (r : Reading) → nodes_all (ended (with_byte c b r).begun (with_byte c b r).stack) ≤ suc (nodes_all (ended r.begun r.stack))
unfolding with_byte nodes_all nodes
byte_more Feed b r = omega arith
byte_more Space b r = omega arith
byte_more Open b r =
    let k = ended r.begun r.stack in
    let e = all_push (form (first k)) (later k) in
    let f = all_first k in
    omega arith
byte_more Close b r = omega arith
byte_more Visible b r = let e = all-word b r.begun r.stack in let f = all-ended r.begun r.stack in omega arith
byte_more Refused b r = omega arith

nodes-read : (bs : List ℕ) → nodes_all (ended (read_bytes bs).begun (read_bytes bs).stack) ≤ length bs
unfolding read_bytes nodes_all
nodes-read [] = omega arith
nodes-read (b ∷ bs) = let e = byte_more (class_of b) b (read_bytes bs) in let f = nodes-read bs in omega arith

pub nodes-short : (s : List ℕ) (p : ℕ) → nodes_all (stack_at s p) ≤ length s
unfolding stack_at rest_at
nodes-short s p = let e = nodes-read (drop p s) in let f = length-drop p s in omega arith
