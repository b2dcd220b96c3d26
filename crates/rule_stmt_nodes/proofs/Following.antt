-- The ways of what comes next in a body, and of its node.
use mathlib.Core.Path.{◌≡◌, refl, sym, ap, ◌∙◌, subst}
use mathlib.Core.Bool.{Bool, true, false}
use mathlib.Core.List.{List, [], ◌∷◌}
use mathlib.Core.Option.{none}
use Prim.Native.Nat.{ℕ}
use Rattle.leaf_words.specs.declared.words.Word.{Word}
use Rattle.leaf_words.specs.Words.{word_of}
use Rattle.law.specs.Base.{given}
use Rattle.code.specs.Layout.{lay}
use Rattle.law.specs.Trees.{Tree, word, form, Trees, end, ◌then◌, Run, first, later, word_at}
use Rattle.law_theorems.specs.Readings.{stack_at}
use Rattle.text_heads.specs.Heads.{is_exception}
use Rattle.text_heads.specs.Parts.{handler_in}
use Rattle.rule_faults.specs.declared.Fault.{Fault}
use Rattle.table_list.specs.Laid.{Laid}
use Rattle.rule_faults.specs.declared.Got.{Got}
use Rattle.text_parts.specs.declared.Part.{Part}
use Rattle.text_parts.specs.declared.Part.TheVariants as part
use Rattle.rule_faults.specs.Got.{lowest}
use Rattle.text_parts.specs.Parts.{LeafAt, FormAt, ShutAt, Stands}
use Rattle.rule_expr_nodes.specs.Nodes.{Makes}
use Rattle.rule_stmt_nodes.specs.declared.last.Head.{Head}
use Rattle.rule_stmt_nodes.specs.declared.last.Next.{Next}
use Rattle.rule_stmt_nodes.specs.declared.last.Next.TheVariants as following
use Rattle.rule_stmt_nodes.specs.BaseNodes.{node_if}
use Rattle.rule_stmt_nodes.specs.Nodes.{plain_made, handled_made}
use Rattle.rule_stmt_nodes.specs.Handlers.{HandlerIn, Comes}

no_end : {t : Tree Run} {ts : Trees Run} → (t then ts) ≡ end → ⊥
no_end h = subst more? h tt
  where
    more? : Trees Run → Type 0
    more? end = ⊥
    more? (t then ts) = Unit {0}

then-inj : {t u : Tree Run} {ts us : Trees Run} → (t then ts) ≡ (u then us) → t ≡ u
then-inj {t} {u} h = ap head_of h
  where
    head_of : Trees Run → Tree Run
    head_of end = t
    head_of (v then vs) = v

headed : (w : Run) (us : Trees Run) (b : Bool) → is_exception (word_of w) ≡ b → b ≡ false → handler_in (form (word w then us)) ≡ none
unfolding handler_in given
headed w us b e h = rw (e ∙ h) refl

module _ (s : List ℕ) (at : ℕ) (x : Part) (S : Stands s at x) where
  pub in_leaf : (w : Word) (p q : ℕ) (b : Bool) → x ≡ part.Leaf w p q → b ≡ is_exception w → b ≡ true → HandlerIn s at (following.Handler q)
  in_leaf w p q b h e t =
      let X = rw h at S.says in
      record { says = record { head = word_at s p; here = X.0.leaf.here; around = X.0.leaf.around; exception = ap is_exception (sym X.1) ∙ sym e ∙ t } }

  pub in-other : (w : Word) (p q : ℕ) (b : Bool) → x ≡ part.Leaf w p q → b ≡ is_exception w → b ≡ false → HandlerIn s at following.Stmt
  in-other w p q b h e t =
      let X = rw h at S.says in
      let L : LeafAt s at p q = X.0 in
      record { says = rw L.leaf.here (headed (word_at s p) (first (stack_at s q)) b (ap is_exception (sym X.1) ∙ sym e) t) }

  in-form : (p : ℕ) → x ≡ part.Form p → HandlerIn s at following.Stmt
  unfolding handler_in
  in-form p h = let F : FormAt s at p = rw h at S.says in record { says = rw F.here refl }

  in-shut : (q : ℕ) → x ≡ part.Shut q → HandlerIn s at following.Stmt
  unfolding handler_in
  in-shut q h = let L : ShutAt s at q = rw h at S.says in record { says = rw L.here refl }

  pub in-none : ((w : Word) (p q : ℕ) → x ≡ part.Leaf w p q → ⊥) → HandlerIn s at following.Stmt
  in-none n = go x refl
    where
      go : (y : Part) → x ≡ y → HandlerIn s at following.Stmt
      go (part.Leaf w p q) e = absurd (n w p q e)
      go (part.Form p) e = in-form p e
      go (part.Shut q) e = in-shut q e

  pub next-leaf : (w : Word) (p q : ℕ) → x ≡ part.Leaf w p q → Comes s at following.Stmt
  unfolding handler_in
  next-leaf w p q h =
      let L : LeafAt s at p q = (rw h at S.says).0 in
      record { says = record { more = λ z. no_end (sym L.leaf.here ∙ z); plain = λ t ts e. rw (← then-inj (sym L.leaf.here ∙ e)) refl } }

  pub next-shut : (q : ℕ) → x ≡ part.Shut q → Comes s at (following.Past q)
  next-shut q h = record { says = rw h at S.says }

  pub next-form : (p : ℕ) (r : Next) → x ≡ part.Form p → HandlerIn s p r → Comes s at r
  next-form p r h G = go r (rw h at S.says) G
    where
      go : (r : Next) → FormAt s at p → HandlerIn s p r → Comes s at r
      go (following.Past q) F G = absurd G.says
      go (following.Handler q) F G =
          let H = G.says in
          record {
            says = record {
              head = H.head;
              here = F.here ∙ ap (λ (u : Trees Run). form u then first (later (stack_at s p))) H.here ∙ ap (λ (k : List (Trees Run)). form (word H.head then first (stack_at s q)) then first k) H.around;
              around = F.around ∙ ap later H.around;
              exception = H.exception;
            };
          }
      go following.Stmt F G = record { says = record { more = λ z. no_end (sym F.here ∙ z); plain = λ t ts e. rw (← then-inj (sym F.here ∙ e)) G.says } }

pub ruleset in_laws = (in_leaf, in-other, in-none)

pub ruleset next_laws = (next-leaf, next-shut, next-form)

-- ---- the node

pub plain-is : (l : List ℕ) (h : Head) (start : ℕ) (g : Got) (q t : ℕ) (r : Got) (l₁ l' : List ℕ) → Laid (lay (0 ∷ []) g.top l) t l₁
    → Makes (node_if g.fault g.kind q (h.number ∷ start ∷ 0 ∷ g.top ∷ h.frame ∷ []) t l₁) r l' → Makes (plain_made l h start g q) r l'
unfolding plain_made
plain-is l h start g q t r l₁ l' K m = rw (← K.free, ← K.left) m

pub handled-is : (l : List ℕ) (h : Head) (start : ℕ) (g b r : Got) (f : Fault) (l' : List ℕ) → f ≡ lowest g.fault b.fault
    → Makes (node_if f b.kind b.next (h.number ∷ start ∷ 1 ∷ g.top ∷ h.frame ∷ []) b.top l) r l' → Makes (handled_made l h start g b) r l'
unfolding handled_made
handled-is l h start g b r f l' e m = rw (← e) m
