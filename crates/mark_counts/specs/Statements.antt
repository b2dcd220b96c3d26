-- How many statements a part holds: by that much a statement's number rises where a walk over the text passes the part.
use Rattle.std.specs.Prelude.{List, ◌≡◌, ℕ, zero, suc, ◌+◌, ◌*◌, ◌<◌, ◌≤◌, length, Option, Some, None}
use Rattle.leaf_words.specs.Words.{word_of}
use Rattle.law.specs.Trees.{Tree, word, form, Trees, end, ◌then◌, Run, first, later}
use Rattle.law_theorems.specs.Readings.{stack_at}
use Rattle.text_words.specs.Passes.{nodes_all}
use Rattle.text_heads.specs.Heads.{verb_of}
use Rattle.text_heads.specs.declared.Verb.{Verb}
use Rattle.text_heads.specs.declared.Verb.TheVariants as verb

-- ---- on trees

-- a statement's head is one
abbrev pub one_for : Verb → ℕ
one_for verb.Assign = 1
one_for verb.Begin = 1
one_for verb.If = 1
one_for verb.While = 1
one_for verb.For = 1
one_for verb.Case = 1
one_for verb.Call = 1
one_for verb.Raise = 1
one_for verb.Nothing = 0

-- one, where a form's parts begin with a statement's head
unfoldable pub head_verbs : Trees Run → ℕ
head_verbs end = 0
head_verbs (word w then ts) = one_for (verb_of (word_of w))
head_verbs (form us then ts) = 0

-- the forms in a tree that begin with a statement's head, itself among them; those in some trees
unfoldable mutual
  pub verbs : Tree Run → ℕ
  verbs (word w) = 0
  verbs (form ts) = head_verbs ts + verbs_in ts

  pub verbs_in : Trees Run → ℕ
  verbs_in end = 0
  verbs_in (t then ts) = verbs t + verbs_in ts

-- those from here to the end of so many levels
unfoldable pub verbs_out : ℕ → List (Trees Run) → ℕ
verbs_out zero k = 0
verbs_out (suc n) k = verbs_in (first k) + verbs_out n (later k)

-- ---- by offset

-- n statements are counted up to p, and m more forms are open there than where the count began: neither number is above the text's length
pub record Room (s : List ℕ) (p m n : ℕ) : Type 0 where
  pub levels : m + nodes_all (stack_at s p) ≤ length s
  pub counted : n + verbs_out (suc m) (stack_at s p) ≤ length s

-- past a closing bracket that ends at q
unfoldable pub shut_from : ℕ → ℕ → ℕ → Option (ℕ × ℕ × ℕ)
shut_from q zero n = None
shut_from q (suc m) n = Some (q, m, n)

-- one word or bracket is passed at p: the statements counted and those to come stay, the open forms and what is left do not grow, and a step
-- falls; or the form ends
abbrev pub MovesBy : List ℕ → ℕ → ℕ → ℕ → Option (ℕ × ℕ × ℕ) → Type 0
MovesBy s p m n (Some (q, m', n')) = (n + verbs_out (suc m) (stack_at s p) ≡ n' + verbs_out (suc m') (stack_at s q))
    × ((m' + nodes_all (stack_at s q) ≤ m + nodes_all (stack_at s p)) × (2 * nodes_all (stack_at s q) + m' < 2 * nodes_all (stack_at s p) + m))
MovesBy s p m n None = verbs_out (suc m) (stack_at s p) ≡ 0

pub record Moves (s : List ℕ) (p m n : ℕ) (r : Option (ℕ × ℕ × ℕ)) : Type 0 where
  pub says : MovesBy s p m n r

-- where a part stands at an offset, r is the number of statements in it
pub record CountsStatements (s : List ℕ) (at r : ℕ) : Type 0 where
  pub says : (t : Tree Run) (us : Trees Run) → first (stack_at s at) ≡ (t then us) → r ≡ verbs t
