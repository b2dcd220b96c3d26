-- The parts of a body: a statement, its handler, or its end.
use Rattle.std.specs.Prelude.{true, List, ◌≡◌, ℕ}
use Rattle.std.proofs.Math.Option.{none}
use Rattle.leaf_words.specs.Words.{word_of}
use Rattle.law.specs.Trees.{Tree, word, form, Trees, end, ◌then◌, Run, first, later}
use Rattle.law_theorems.specs.Readings.{stack_at}
use Rattle.text_heads.specs.Heads.{is_exception}
use Rattle.text_heads.specs.Parts.{handler_in}
use Rattle.text_parts.specs.Parts.{ShutAt}
use Rattle.rule_stmt_nodes.specs.declared.last.Next.{Next}
use Rattle.rule_stmt_nodes.specs.declared.last.Next.TheVariants as following

-- `(exception S..)` whose statements begin at q
pub record HandlerAt (s : List ℕ) (at q : ℕ) : Type 0 where
  pub head : Run
  pub here : first (stack_at s at) ≡ (form (word head then first (stack_at s q)) then first (later (stack_at s q)))
  pub around : later (stack_at s at) ≡ later (later (stack_at s q))
  pub exception : is_exception (word_of head) ≡ true

-- a part that is no handler
pub record PlainAt (s : List ℕ) (at : ℕ) : Type 0 where
  pub more : first (stack_at s at) ≡ end → ⊥
  pub plain : (t : Tree Run) (ts : Trees Run) → first (stack_at s at) ≡ (t then ts) → handler_in t ≡ none

-- what comes next in a body
abbrev pub ComesBy : List ℕ → ℕ → Next → Type 0
ComesBy s at (following.Past q) = ShutAt s at q
ComesBy s at (following.Handler q) = HandlerAt s at q
ComesBy s at following.Stmt = PlainAt s at

pub record Comes (s : List ℕ) (at : ℕ) (r : Next) : Type 0 where
  pub says : ComesBy s at r

-- the head `exception`
pub record HeadAt (s : List ℕ) (at q : ℕ) : Type 0 where
  pub head : Run
  pub here : first (stack_at s at) ≡ (word head then first (stack_at s q))
  pub around : later (stack_at s at) ≡ later (stack_at s q)
  pub exception : is_exception (word_of head) ≡ true

-- the same from inside a form
abbrev pub HandlerInBy : List ℕ → ℕ → Next → Type 0
HandlerInBy s at (following.Past q) = ⊥
HandlerInBy s at (following.Handler q) = HeadAt s at q
HandlerInBy s at following.Stmt = handler_in (form (first (stack_at s at))) ≡ none

pub record HandlerIn (s : List ℕ) (at : ℕ) (r : Next) : Type 0 where
  pub says : HandlerInBy s at r
