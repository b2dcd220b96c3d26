-- The ways through what a walk over statements looks up.
use mathlib.Core.Path.{◌≡◌, refl, sym, ap, subst, ◌∙◌}
use Rattle.std.specs.Prelude.{Some, None}
use mathlib.Core.Bool.{false}
use mathlib.Core.List.{List, map}
use mathlib.Core.Option.{Option, none, some}
use Prim.Native.Nat.{ℕ, ◌+◌, ◌*◌, ◌<◌, ◌≤◌}
use native.Mathlib.Omega.{arith}
use lib.ListN.{get_or}
use Rattle.leaf_bytes.specs.Bytes.{small}
use Rattle.law.specs.Base.{Name, ◌>>=◌, find, given}
use Rattle.law.specs.Environment.{Environment, NameSort}
use Rattle.law.specs.Forms.{free}
use Rattle.law.specs.Names.{as_proc}
use Rattle.law.specs.Syntax.{Body, Stmts}
use Rattle.law.specs.Trees.{word, form, Trees, end, ◌then◌, Run, first, later, word_at}
use Rattle.law_theorems.specs.Readings.{stack_at}
use Rattle.law_theorems.proofs.Inversion.{none-some, some_inj}
use Rattle.law.specs.Words as Words
use Rattle.law.specs.Words.{worded, worded_all}
use Rattle.leaf_words.specs.declared.words.Word as Kind
use Rattle.leaf_words.specs.Words.{word_of}
use Rattle.text_heads.specs.declared.Atom.{Atom}
use Rattle.text_heads.specs.declared.Atom.TheVariants as AT
use Rattle.text_heads.specs.Heads.{atom_name, atom_of}
use Rattle.text_heads.specs.Parts.{part_of, rest, name_in, body_in, handler_in}
use Rattle.text_heads.proofs.Heads.{name-word}
use Rattle.text_parts.specs.declared.Part.{Part}
use Rattle.text_parts.specs.declared.Part.TheVariants as part
use Rattle.text_parts.specs.Parts as Parts
use Rattle.table_scope.specs.declared.frames.Frame as Scoped
use Rattle.table_scope.specs.Frames.{frame_in}
use Rattle.table_scope.specs.declared.Scope.{Scope}
use Rattle.table_scope.specs.declared.Meaning.{Meaning}
use Rattle.table_scope.specs.Scene.{Told, unknown, known, a-type, a-var, a-proc, a-value, meaning_here}
use Rattle.table_scope.proofs.Telling.{meant}
use Rattle.rule_stmt_nodes.specs.declared.last.Next.{Next}
use Rattle.rule_stmt_nodes.specs.declared.last.Next.TheVariants as following
use Rattle.rule_stmt_nodes.specs.Handlers.{Comes, HandlerAt, PlainAt}
use Rattle.text_skips.specs.Skips.{Skips}
use Rattle.mark_counts.specs.Statements.{CountsStatements, verbs_in}
use Rattle.mark_counts.proofs.Numbers.{body-handler, body-number}
use Rattle.mark_counts.proofs.Passing.{body-on}
use Rattle.rule_expressions.specs.Members.{many}
use Rattle.mark_statements.specs.declared.finding.Callee.{Callee}
use Rattle.mark_statements.specs.Finding.{line_of, proc_in, callee_at, Calls, HandlesBy, Handles}

-- ---- `line_of`
pub line-is : (tb : List ℕ) (q a b c d e f g h : ℕ) → a ≡ get_or tb (8 * q) 0 → b ≡ get_or tb (8 * q + 1) 0 → c ≡ get_or tb (8 * q + 2) 0 → d ≡ get_or tb (8 * q + 3) 0 → e ≡ get_or tb (8 * q + 4) 0
    → f ≡ get_or tb (8 * q + 5) 0 → g ≡ get_or tb (8 * q + 6) 0 → h ≡ get_or tb (8 * q + 7) 0
    → record { start = a; scope = record { count = d; newest = e; pairs = f; vars = g; parameters = h }; number = b; kinds = c } ≡ line_of tb q
line-is tb q a b c d e f g h ea eb ec ed ee ef eg eh = rw (ea, eb, ec, ed, ee, ef, eg, eh) refl

-- ---- `callee`
told-proc : (σ : Environment) (bs : List ℕ) (x : Meaning) (n : Option NameSort) → Told σ bs x n → (p : ℕ × List ℕ) → (n >>= as_proc) ≡ some p → proc_in x ≡ get_or bs p.0 0
unfolding ◌>>=◌
told-proc σ bs _ _ unknown p h = none-some h
told-proc σ bs _ _ (known a-type) p h = none-some h
told-proc σ bs _ _ (known (a-var v e)) p h = none-some h
told-proc σ bs _ _ (known a-proc) p h = ap (λ (k : ℕ × List ℕ). get_or bs k.0 0) (some_inj h)
told-proc σ bs _ _ (known a-value) p h = none-some h

pub callee-is : (l : List ℕ) (p q a : ℕ) (x : Scoped.Frame) → a ≡ get_or l p 0 → x ≡ frame_in l p → record { number = a; frame = x; next = q } ≡ callee_at l p q
callee-is l p q a x e f = rw (e, f) refl

-- a word that reads as a name is that name
atom-name : (a : Atom) (v w : Name) → atom_name a v ≡ some w → v ≡ w
atom-name (AT.Number z) v w h = none-some h
atom-name AT.Named v w h = some_inj h
atom-name (AT.Truth b) v w h = none-some h
atom-name AT.ErrorNumber v w h = none-some h
atom-name (AT.Base k) v w h = none-some h
atom-name AT.Nothing v w h = none-some h

no-name-form : (us ts : Trees Run) → name_in (form us then ts) ≡ none
unfolding name_in part_of free worded ◌>>=◌
no-name-form us ts = go (worded_all us)
  where
    go : (o : Option (Trees Words.Word)) → ((o >>= λ vs. some (form vs)) >>= free) ≡ none
    go none = refl
    go (some vs) = refl

no-name-end : name_in end ≡ none
unfolding name_in part_of ◌>>=◌
no-name-end = refl

module _ (s l : List ℕ) (scope : Scope) (at : ℕ) (x : Part) (X : Parts.Stands s at x) where
  pub callee_named : (w : Kind.Word) (p q : ℕ) (m : Meaning) (a : ℕ) (r : Callee) → x ≡ part.Leaf w p q → m ≡ meaning_here s l scope p → a ≡ proc_in m → r ≡ callee_at l a q → Calls s l scope at r
  callee_named w p q m a r e em ea er = record {
    says = λ ts top σ bs S v hv k hk.
        let f = rw e at X.says in
        let b : map small (word_at s p) ≡ v = atom-name (atom_of (word_of (word_at s p))) (map small (word_at s p)) v (sym (name-word (word_at s p) (first (stack_at s q))) ∙ ap name_in (sym f.0.leaf.here) ∙ hv) in
        let c : a ≡ get_or bs k.0 0 = ea ∙ ap proc_in em ∙ told-proc σ bs (meaning_here s l scope p) (find σ.names (map small (word_at s p))) (meant S (map small (word_at s p))) k
        (ap (λ (v : Name). find σ.names v >>= as_proc) b ∙ hk) in
        rw er (record { callee = ap (λ (y : ℕ). callee_at l y q) c; after = ap rest f.0.leaf.here });
  }

  pub callee-form : (p : ℕ) (r : Callee) → x ≡ part.Form p → Calls s l scope at r
  callee-form p r e = record {
    says = λ ts top σ bs S v hv k hk. none-some (sym (no-name-form (first (stack_at s p)) (first (later (stack_at s p)))) ∙ ap name_in (sym (rw e at X.says).here) ∙ hv);
  }

  pub callee-shut : (p : ℕ) (r : Callee) → x ≡ part.Shut p → Calls s l scope at r
  callee-shut p r e = record { says = λ ts top σ bs S v hv k hk. none-some (sym no-name-end ∙ ap name_in (sym (rw e at X.says).here) ∙ hv) }

pub ruleset callee-laws = (callee_named, callee-form, callee-shut)

-- ---- `handler_of`

-- what is left of a body has its handler
pub record Behind (s : List ℕ) (n at m p : ℕ) : Type 0 where
  pub left : (b : Body × ℕ) → body_in n (first (stack_at s at)) ≡ some b → b.1 ≤ 4294967295
      → (c : Body × ℕ) × ((body_in m (first (stack_at s p)) ≡ some c) × ((b.0.handles ≡ c.0.handles) × ((b.0.handler ≡ c.0.handler) × (b.1 ≡ c.1))))

pub behind-start : (s : List ℕ) (n at : ℕ) → Behind s n at n at
behind-start s n at = record { left = λ b h l. (b, (h, (refl, (refl, refl)))) }

module _ (s : List ℕ) (n at m p : ℕ) (B : Behind s n at m p) (x : Next) (C : Comes s p x) where
  body-shut : (c : Body × ℕ) → first (stack_at s p) ≡ end → body_in m (first (stack_at s p)) ≡ some c → c.0.handles ≡ false
  unfolding body_in
  body-shut c e h = ap (λ (y : Body × ℕ). y.0.handles) (sym (some_inj (rw e at h)))

  pub handler-past : (q : ℕ) → x ≡ following.Past q → Handles s n at None
  handler-past q e = record { says = λ b h l. let y = B.left b h l in y.1.1.0 ∙ body-shut y.0 (rw e at C.says).here y.1.0 }

  pub handler-here : (q : ℕ) → x ≡ following.Handler q → Handles s n at (Some (q, m))
  unfolding handler_in given
  handler-here q e = record { says = λ b h l. let y = B.left b h l in go b y.0 y.1.0 y.1.1.0 y.1.1.1.0 y.1.1.1.1 }
    where
      H : HandlerAt s p q
      H = rw e at C.says

      go : (b c : Body × ℕ) → body_in m (first (stack_at s p)) ≡ some c → b.0.handles ≡ c.0.handles → b.0.handler ≡ c.0.handler → b.1 ≡ c.1 → HandlesBy s b (Some (q, m))
      go b c h i j k = body-handler m (form (word H.head then first (stack_at s q))) (first (stack_at s q)) (first (later (stack_at s q))) c
          (rw H.exception refl) (ap (body_in m) (sym H.here) ∙ h) λ u z hu g.
          (i ∙ ap (λ (v : Body × ℕ). v.0.handles) (sym g), hu ∙ ap (λ (v : Stmts × ℕ). some v) (rw (j, k, ← g) refl))

  module _ (e : x ≡ following.Stmt) (r : ℕ) (R : CountsStatements s p r) (m' : ℕ) (M : m + r ≤ 4294967295 → m' ≡ m + r) (q : ℕ) (Q : Skips s p q) where
    plainly : PlainAt s p
    plainly = rw e at C.says

    pub handler-next : Behind s n at m' q
    handler-next = record { left = λ b h l. let y = B.left b h l in go b l y.0 y.1.0 y.1.1.0 y.1.1.1.0 y.1.1.1.1 (first (stack_at s p)) refl }
      where
        go : (b : Body × ℕ) → b.1 ≤ 4294967295 → (c : Body × ℕ) → body_in m (first (stack_at s p)) ≡ some c → b.0.handles ≡ c.0.handles → b.0.handler ≡ c.0.handler → b.1 ≡ c.1
            → (us : Trees Run) → first (stack_at s p) ≡ us
            → (c : Body × ℕ) × ((body_in m' (first (stack_at s q)) ≡ some c) × ((b.0.handles ≡ c.0.handles) × ((b.0.handler ≡ c.0.handler) × (b.1 ≡ c.1))))
        go b l c h i j k end z = absurd (plainly.more z)
        go b l c h i j k (t then us) z = body-on s p r R q t m c (Q.says t us z) (plainly.plain t us z) h λ a f ha hf g.
            let v : f.1 ≡ m + r + verbs_in (first (stack_at s q)) = body-number (m + r) (first (stack_at s q)) f hf in
            let w : f.1 ≡ c.1 = ap (λ (y : Body × ℕ). y.1) g in
            let u : m + r ≤ 4294967295 = omega (arith, v, w, k, l) in (
              f,
              (
                ap (λ (y : ℕ). body_in y (first (stack_at s q))) (M u) ∙ hf,
                (i ∙ ap (λ (y : Body × ℕ). y.0.handles) (sym g), (j ∙ ap (λ (y : Body × ℕ). y.0.handler) (sym g), k ∙ sym w)),
              ),
            )

-- a part more is passed
pub handler-falls : (s : List ℕ) (p q : ℕ) (x : Next) → Comes s p x → x ≡ following.Stmt → Skips s p q → many (first (stack_at s q)) < many (first (stack_at s p))
unfolding many
handler-falls s p q x C e Q = go (first (stack_at s p)) refl
  where
    go : (us : Trees Run) → first (stack_at s p) ≡ us → many (first (stack_at s q)) < many us
    go end i = absurd ((rw e at C.says).more i)
    go (u then us) i = let b : us ≡ first (stack_at s q) = ap rest (sym i ∙ (Q.says u us i).here) in rw b (omega arith)

pub ruleset handler-laws = (handler-past, handler-here)
