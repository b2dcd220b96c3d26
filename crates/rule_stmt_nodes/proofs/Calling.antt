-- The laws of a call's code: each way through a function gives the answer that `Calls` defines.
use mathlib.Core.Path.{◌≡◌, refl, ap, ◌∙◌}
use mathlib.Core.List.{List, [], ◌∷◌}
use Prim.Native.Nat.{ℕ, ◌+◌, ◌<◌, ◌≤◌}
use borrow.Author.Tests.{lt-ltb, le-ltb}
use lib.ListN.{get_or}
use Rattle.rule_faults.specs.declared.Fault.{Fault}
use Rattle.rule_faults.specs.declared.Fault.TheVariants.{Clear, Kind}
use Rattle.rule_faults.specs.declared.Got.{Got}
use Rattle.rule_faults.specs.Got.{lowest}
use Rattle.table_scope.specs.declared.frames.Frame.{Frame}
use Rattle.table_scope.specs.declared.Meaning.{Meaning}
use Rattle.table_scope.specs.declared.Meaning.TheVariants as meaning
use Rattle.table_scope.specs.Frames.{frame_in}
use Rattle.table_scope.specs.Sides.{host_in}
use Rattle.rule_expr_nodes.specs.Members.{member_fault}
use Rattle.rule_expr_nodes.specs.Nodes.{Makes}
use Rattle.rule_stmt_nodes.specs.BaseNodes.{node_if}
use Rattle.rule_stmt_nodes.specs.Nodes.{next_number}
use Rattle.rule_stmt_nodes.specs.declared.calls.Callee.{Callee}
use Rattle.rule_stmt_nodes.specs.Calls.{callee_is, no_callee, callee_by, argument_fault, argument_got, few_fault, called}

module _ (l : List ℕ) (m : Meaning) (r : Callee) where
  pub callee-unknown : m ≡ meaning.Unknown → r ≡ no_callee → r ≡ callee_by l m
  callee-unknown h e = rw h e

  pub callee-type : (k : ℕ) → m ≡ meaning.Type k → r ≡ no_callee → r ≡ callee_by l m
  callee-type k h e = rw h e

  pub callee-var : (i k a : ℕ) → m ≡ meaning.Var i k a → r ≡ no_callee → r ≡ callee_by l m
  callee-var i k a h e = rw h e

  pub callee-value : (k v : ℕ) → m ≡ meaning.Value k v → r ≡ no_callee → r ≡ callee_by l m
  callee-value k v h e = rw h e

  pub callee-proc : (p : ℕ) (x : Frame) → m ≡ meaning.Proc p → x ≡ frame_in l p → r ≡ callee_is Clear p x → r ≡ callee_by l m
  callee-proc p x h i e = rw h (e ∙ ap (callee_is Clear p) i)

pub ruleset callee_laws = (callee-unknown, callee-type, callee-var, callee-value, callee-proc)

module _ (l ts : List ℕ) (x : Frame) (j : ℕ) (a : Got) (f : Fault) where
  pub argument-of : (t k : ℕ) → j < x.count → t ≡ get_or l (x.types + j) 0 → k ≡ host_in l ts t → f ≡ member_fault a.fault a.kind k → f ≡ argument_fault l ts x j a
  unfolding argument_fault
  argument-of t k h i e g = rw (lt-ltb j x.count h, ← i, ← e) g

  pub argument-past : x.count ≤ j → f ≡ lowest a.fault Kind → f ≡ argument_fault l ts x j a
  unfolding argument_fault
  argument-past h g = rw (le-ltb j x.count h) g

pub ruleset argument_laws = (argument-of, argument-past)

pub with-argument-is : (l ts : List ℕ) (x : Frame) (g a : Got) (t : ℕ) (f h : Fault) (n : ℕ) → f ≡ argument_fault l ts x g.kind a → h ≡ lowest g.fault f → n ≡ next_number g.kind
    → record { fault = h; kind = n; place = 0; next = a.next; top = t } ≡ argument_got l ts x g a t
with-argument-is l ts x g a t f h n e i k = rw (i, e, k) refl

module _ (x : Frame) (n : ℕ) where
  pub few-is : n < x.count → Kind ≡ few_fault x n
  unfolding few_fault
  few-is h = rw (lt-ltb n x.count h) refl

  pub few-not : x.count ≤ n → Clear ≡ few_fault x n
  unfolding few_fault
  few-not h = rw (le-ltb n x.count h) refl

pub ruleset few_laws = (few-is, few-not)

pub call-is : (l : List ℕ) (n : ℕ) (c : Callee) (slot : ℕ) (a r : Got) (d e f : Fault) (l' : List ℕ) → d ≡ few_fault c.frame a.kind → e ≡ lowest a.fault d → f ≡ lowest c.fault e
    → Makes (node_if f n a.next (50 ∷ n ∷ c.place ∷ slot ∷ []) a.top l) r l' → Makes (called l n c slot a) r l'
unfolding called
call-is l n c slot a r d e f l' hd he hf m = rw (← hd, ← he, ← hf) m
