-- A part that is an expression, a target or a constant has no constant past the integers just where its tree has none.
use mathlib.Core.Path.{◌≡◌, refl, sym, ap, ◌∙◌}
use mathlib.Core.Bool.{Bool, true, false, cond, ◌&&◌}
use mathlib.Core.List.{List, [], ◌∷◌, map}
use mathlib.Core.Option.{Option, none, some}
use Prim.Native.Nat.{ℕ, zero, suc, ◌<◌}
use native.Mathlib.Omega.{arith}
use borrow.Author.Tests.{le-leb}
use lib.Dec.{eqb}
use lib.IntN.{ℤ, neg_ℤ}
use lib.ListN.{get_or}
use lib.Signed.{mag}
use Rattle.leaf_integers.specs.Integers.{inside, least, most}
use Rattle.leaf_integers.proofs.Order.{le_z-trans}
use Rattle.leaf_integers.proofs.Ranges.{inside_both, inside_is, inside-mag}
use Rattle.leaf_words.specs.declared.words.Word as Kind
use Rattle.leaf_words.specs.declared.words.Word.TheVariants as W
use Rattle.leaf_bytes.specs.Bytes.{small}
use Rattle.leaf_words.specs.Words.{word_of}
use Rattle.leaf_words.proofs.Ranges.{Ranged, word-ranged}
use Rattle.law.specs.Base.{Name, ◌>>=◌, find}
use Rattle.law.specs.Calculate as Calculate
use Rattle.law.specs.Environment.{Environment, NameSort, a_type, a_var, a_proc, a_value}
use Rattle.law.specs.Forms.{Head, h_members, h_minus, h_bound, h_op, h_fun}
use Rattle.law_theorems.specs.FormsByDepth.{expr, target, expr_form}
use Rattle.law.specs.Names.{Reached, const_of, as_value, as_expr, atom_of, constant_of, expr_of, exprs_of, target_of}
use Rattle.law.specs.Operators.{Op, Fun, negate, minus}
use Rattle.law.specs.Rules.{plain, plain_expr, plain_target, plain_exprs}
use Rattle.law.specs.Script as Script
use Rattle.law.specs.Script.{Const}
use Rattle.law.specs.Syntax as Syntax
use Rattle.law.specs.Syntax.{Constant, TypeName}
use Rattle.law.specs.Trees.{word, form, Trees, end, ◌then◌, Run, list}
use Rattle.law.specs.Types.{info_at, ordinal?}
use Rattle.law.specs.Words.{worded_all}
use Rattle.law_theorems.proofs.Inversion.{none-some, some_inj, bind-some, and-true}
use Rattle.law_theorems.proofs.LinesKeep.{find-fair}
use Rattle.law_theorems.specs.LinesKeep.{Fair, value, AllFair}
use Rattle.law_theorems.specs.TypeTables.{Table}
use Rattle.code_ops.specs.Functions.{functions}
use Rattle.code_ops.specs.Operators.{operators}
use Rattle.text_heads.specs.declared.Atom.{Atom}
use Rattle.text_heads.specs.declared.Atom.TheVariants as AT
use Rattle.text_heads.specs.declared.ExprHead.{ExprHead}
use Rattle.text_heads.specs.declared.ExprHead.TheVariants as EH
use Rattle.text_heads.specs.Heads as heads
use Rattle.text_heads.specs.Heads.{atom_expr, atom_constant, atom_target, expr_head_of, expr_head_meant, reserved_atom}
use Rattle.text_heads.specs.Parts.{part_of, rest, closed, expr_in, target_in, name_in, number_in, type_name_in, constant_in, exprs_in, target_by, constant_by}
use Rattle.text_heads.proofs.Heads.{expr-head-is, expr-word, constant-word, target-word}
use Rattle.text_heads.proofs.Expressions.{expr-form, expr-end, expr-zero, expr-empty, expr-headless, two-parts, one-part, at_read, dot-read, bound-parts, members-parts, minus-number, minus_one, minus-two, target-form, target-end, target-zero, target-empty, target-headless, constant-form, constant-empty, constant-headless, name-form, number-form, type-form}
use Rattle.rule_atoms.specs.Answering.{minus_form}
use Rattle.rule_constants.specs.Plain.{sound_by, plain_tree, plain_in, plain_first}

-- ---- numbers are in the integers

numbered : Atom → Bool
numbered (AT.Number z) = true
numbered AT.Named = false
numbered (AT.Truth b) = false
numbered AT.ErrorNumber = false
numbered (AT.Base k) = false
numbered AT.Nothing = false

no_number : (k : ℕ) → numbered (reserved_atom k) ≡ false
unfolding reserved_atom numbered
no_number k = go (eqb k 41) (eqb k 42) (eqb k 43) (eqb k 44) (eqb k 45)
  where
    go : (a b c d e : Bool) → numbered (cond a (AT.Base 0) (cond b (AT.Base 1) (cond c (AT.Truth true) (cond d (AT.Truth false) (cond e AT.ErrorNumber AT.Nothing))))) ≡ false
    go true b c d e = refl
    go false true c d e = refl
    go false false true d e = refl
    go false false false true e = refl
    go false false false false true = refl
    go false false false false false = refl

true-false {ℓ} : {X : Type ℓ} → true ≡ false → X
true-false h = absurd (let z : ◌≡◌ {A = ℕ} 0 1 = cc in omega arith)

pub number-inside : (w : Run) (z : ℤ) → heads.atom_of (word_of w) ≡ AT.Number z → inside least most z ≡ true
unfolding numbered
number-inside w z e = go (word_of w) (word-ranged w) e
  where
    go : (v : Kind.Word) → Ranged v → heads.atom_of v ≡ AT.Number z → inside least most z ≡ true
    go (W.Number y) r h = let f : y ≡ z = cc in inside-mag 2147483647 z ∙ le-leb (mag z) 2147483647 (let q : mag z < 2147483648 = rw f at r in omega arith)
    go W.Name r h = true-false (sym (ap numbered h))
    go (W.Reserved k) r h = true-false (sym (ap numbered h) ∙ no_number k)
    go (W.Operator k) r h = true-false (sym (ap numbered h))
    go W.Unknown r h = true-false (sym (ap numbered h))

-- ---- trees

first_rest : (us : Trees Run) → plain_in us ≡ (plain_first us && plain_in (rest us))
unfolding plain_first plain_in
first_rest end = refl
first_rest (t then ts) = refl

and_one : (b : Bool) → (b && true) ≡ b
and_one true = refl
and_one false = refl

one_plain : (us : Trees Run) → rest us ≡ end → plain_in us ≡ plain_first us
unfolding plain_in
one_plain us e = first_rest us ∙ rw e (and_one (plain_first us))

two-plain : (us : Trees Run) → rest (rest us) ≡ end → plain_in us ≡ (plain_first us && plain_first (rest us))
two-plain us e = first_rest us ∙ ap (λ (b : Bool). plain_first us && b) (one_plain (rest us) e)

closed-end : {A P : Type 0} {us : Trees Run} {a b : A} → closed us a ≡ some b → (us ≡ end → a ≡ b → P) → P
unfolding closed
closed-end {us = end} h k = k refl (some_inj h)
closed-end {us = t then ts} h k = none-some h

name-plain : (us : Trees Run) (n : Name) → name_in us ≡ some n → plain_first us ≡ true
unfolding plain_first plain_tree
name-plain end n h = refl
name-plain (word w then ts) n h = refl
name-plain (form vs then ts) n h = none-some (sym (name-form vs ts) ∙ h)

type-plain : (us : Trees Run) (n : TypeName) → type_name_in us ≡ some n → plain_first us ≡ true
unfolding plain_first plain_tree
type-plain end n h = refl
type-plain (word w then ts) n h = refl
type-plain (form vs then ts) n h = none-some (sym (type-form vs ts) ∙ h)

number-plain : (us : Trees Run) (z : ℤ) → number_in us ≡ some z → plain_first us ≡ true
unfolding plain_first plain_tree
number-plain end z h = refl
number-plain (word w then ts) z h = refl
number-plain (form vs then ts) z h = none-some (sym (number-form vs ts) ∙ h)

constant-end : constant_in end ≡ none
unfolding constant_in part_of ◌>>=◌
constant-end = refl

-- ---- heads that a table gives by number

module _ {A : Type 0} (f : A → Head) where
  tabled : (xs : List A) (n : ℕ) (h : Head) → get_or (map (λ (x : A). some (f x)) xs) n none ≡ some h → (x : A) × (f x ≡ h)
  tabled [] n h e = none-some e
  tabled (x ∷ xs) zero h e = (x, some_inj e)
  tabled (x ∷ xs) (suc n) h e = tabled xs n h e

-- the parts after a head, as an expression
abbrev formed : Option Head → ℕ → Trees Run → Option Syntax.Expr
formed o d us = o >>= λ (h : Head). worded_all us >>= λ vs. expr_form (λ t. expr d t) (λ t. target d t) h (list vs)

module _ (σ : Environment) (T : Table σ.types) (m : ℕ) (F : AllFair σ.types m σ.names) where
  -- ---- words

  fair-plain : {c : Const} → Fair σ.types m (a_value c) → plain c ≡ true
  unfolding plain
  fair-plain {c} (value l h) =
      let k = and-true (ordinal? σ.types c.kind) (inside (info_at σ.types c.kind).low (info_at σ.types c.kind).high c.value) h in
      let b = (T.each c.kind).small k.0 in
      let i = inside_is (info_at σ.types c.kind).low (info_at σ.types c.kind).high c.value k.1 in
      inside_both least most c.value (le_z-trans least (info_at σ.types c.kind).low c.value b.0 i.0) (le_z-trans c.value (info_at σ.types c.kind).high most i.1 b.1)

  pub value-plain : (w : Name) (c : Const) → find σ.names w ≡ some (a_value c) → plain c ≡ true
  value-plain w c h = fair-plain (find-fair F w (a_value c) h)

  name-expr : (w : Name) (s : NameSort) (e : Script.Expr) → find σ.names w ≡ some s → as_expr s ≡ some e → plain_expr e ≡ true
  unfolding plain_expr
  name-expr w (a_type t) e h k = none-some k
  name-expr w (a_var i) e h k = rw (← some_inj k) refl
  name-expr w (a_proc p ts) e h k = none-some k
  name-expr w (a_value c) e h k = rw (← some_inj k) (value-plain w c h)

  atom-plain : (a : Atom) (n : Name) (x : Syntax.Expr) (e : Script.Expr) → ((z : ℤ) → a ≡ AT.Number z → inside least most z ≡ true) → atom_expr a n ≡ some x → expr_of σ x ≡ some e → plain_expr e ≡ true
  unfolding plain_expr expr_of atom_of plain Calculate.truth inside
  atom-plain (AT.Number z) n x e i h k = let q = some_inj (rw (← some_inj h) at k) in rw (← q) (i z refl)
  atom-plain AT.Named n x e i h k = let q = rw (← some_inj h) at k in bind-some q λ s hs g. name-expr n s e hs g
  atom-plain (AT.Truth true) n x e i h k = let q = some_inj (rw (← some_inj h) at k) in rw (← q) refl
  atom-plain (AT.Truth false) n x e i h k = let q = some_inj (rw (← some_inj h) at k) in rw (← q) refl
  atom-plain AT.ErrorNumber n x e i h k = let q = some_inj (rw (← some_inj h) at k) in rw (← q) refl
  atom-plain (AT.Base b) n x e i h k = none-some h
  atom-plain AT.Nothing n x e i h k = none-some h

  -- ---- one level: E and G are the same one level down

  module _ (d : ℕ) (E : (us : Trees Run) (x : Syntax.Expr) (e : Script.Expr) → expr_in d us ≡ some x → expr_of σ x ≡ some e → plain_expr e ≡ plain_first us)
      (G : (us : Trees Run) (g : Syntax.Target) (r : Reached) → target_in d us ≡ some g → target_of σ g ≡ some r → plain_target r.target ≡ plain_first us) where
    members_plain : (us : Trees Run) (xs : Syntax.Exprs) (es : Script.Exprs) → exprs_in d us ≡ some xs → exprs_of σ xs ≡ some es → plain_exprs es ≡ plain_in us
    unfolding exprs_in expr_in part_of expr_of plain_expr plain_in plain_first
    members_plain end xs es h k = let q = some_inj (rw (← some_inj h) at k) in rw (← q) refl
    members_plain (t then ts) xs es h k = bind-some h λ a ha h'. bind-some h' λ bs hbs q. let k' = rw (← some_inj q) at k in
        bind-some k' λ x hx k''. bind-some k'' λ ys hys p. rw (← some_inj p, E (t then ts) a x ha hx, members_plain ts bs ys hbs hys) refl

    both-plain : (us : Trees Run) (a b : Syntax.Expr) (x y : Script.Expr) → expr_in d us ≡ some a → expr_in d (rest us) ≡ some b → rest (rest us) ≡ end → expr_of σ a ≡ some x → expr_of σ b ≡ some y
        → (plain_expr x && plain_expr y) ≡ plain_in us
    both-plain us a b x y ha hb e hx hy = rw (E us a x ha hx, E (rest us) b y hb hy) (sym (two-plain us e))

    at_plain : (us : Trees Run) (g : Syntax.Target) (a : Syntax.Expr) (r : Reached) → target_in d us ≡ some g → expr_in d (rest us) ≡ some a → rest (rest us) ≡ end → target_of σ (Syntax.at g a) ≡ some r
        → plain_target r.target ≡ plain_in us
    unfolding target_of plain_target
    at_plain us g a r hg ha e h = bind-some h λ v hv h'. bind-some h' λ x hx p. rw (← some_inj p, G us g v hg hv, E (rest us) a x ha hx) (sym (two-plain us e))

    dot-plain : (us : Trees Run) (g : Syntax.Target) (n : Name) (r : Reached) → target_in d us ≡ some g → name_in (rest us) ≡ some n → rest (rest us) ≡ end → target_of σ (Syntax.dot g n) ≡ some r
        → plain_target r.target ≡ plain_in us
    unfolding target_of plain_target
    dot-plain us g n r hg hn e h = bind-some h λ v hv h'. bind-some h' λ t ht p.
        rw (← some_inj p, G us g v hg hv) (sym (two-plain us e ∙ ap (λ (b : Bool). plain_first us && b) (name-plain (rest us) n hn) ∙ and_one (plain_first us)))

    -- the targets by a head
    target-by : (k : ExprHead) (us : Trees Run) (g : Syntax.Target) (r : Reached) → target_by k d us ≡ some g → target_of σ g ≡ some r → plain_target r.target ≡ (sound_by (constant_by k us) && plain_in us)
    unfolding target_by constant_by sound_by
    target-by EH.At us g r h k = bind-some h λ v hv h'. bind-some h' λ a ha c. closed-end c λ e q. at_plain us v a r hv ha e (rw (← q) at k)
    target-by EH.Dot us g r h k = bind-some h λ v hv h'. bind-some h' λ n hn c. closed-end c λ e q. dot-plain us v n r hv hn e (rw (← q) at k)
    target-by EH.Members us g r h k = none-some h
    target-by EH.Minus us g r h k = none-some h
    target-by (EH.Bound b) us g r h k = none-some h
    target-by (EH.Short q) us g r h k = none-some h
    target-by (EH.Two n) us g r h k = none-some h
    target-by (EH.One n) us g r h k = none-some h
    target-by EH.Nothing us g r h k = none-some h

    -- expressions by a shape
    read_plain : (us : Trees Run) (x : Syntax.Expr) (e : Script.Expr) (o : Option Syntax.Target) → (o >>= λ g. some (Syntax.read g)) ≡ some x → expr_of σ x ≡ some e
        → ((g : Syntax.Target) (r : Reached) → o ≡ some g → target_of σ g ≡ some r → plain_target r.target ≡ plain_in us) → plain_expr e ≡ plain_in us
    unfolding expr_of plain_expr
    read_plain us x e o h k f = bind-some h λ g hg q. let k' = rw (← some_inj q) at k in bind-some k' λ r hr p. rw (← some_inj p) (f g r hg hr)

    two-sided : (us : Trees Run) (f : Syntax.Expr → Syntax.Expr → Syntax.Expr) (x : Syntax.Expr) (e : Script.Expr)
        → (expr_in d us >>= λ a. expr_in d (rest us) >>= λ b. closed (rest (rest us)) (f a b)) ≡ some x → expr_of σ x ≡ some e
        → ((a b : Syntax.Expr) → expr_of σ (f a b) ≡ some e → (u : Script.Expr) × ((v : Script.Expr) × ((expr_of σ a ≡ some u) × ((expr_of σ b ≡ some v) × (plain_expr e ≡ (plain_expr u && plain_expr v)))))) → plain_expr e ≡ plain_in us
    two-sided us f x e h k inv = bind-some h λ a ha h'. bind-some h' λ b hb c. closed-end c λ z q.
        let i = inv a b (rw (← q) at k) in i.1.1.1.1 ∙ both-plain us a b i.0 i.1.0 ha hb z i.1.1.0 i.1.1.1.0

    binary-inv : (op : Op) (a b : Syntax.Expr) (e : Script.Expr) → expr_of σ (Syntax.binary op a b) ≡ some e
        → (u : Script.Expr) × ((v : Script.Expr) × ((expr_of σ a ≡ some u) × ((expr_of σ b ≡ some v) × (plain_expr e ≡ (plain_expr u && plain_expr v)))))
    unfolding expr_of plain_expr
    binary-inv op a b e h = bind-some h λ u hu h'. bind-some h' λ v hv p. (u, (v, (hu, (hv, rw (← some_inj p) refl))))

    short-inv : (q : Bool) (a b : Syntax.Expr) (e : Script.Expr) → expr_of σ (Syntax.short_circuit q a b) ≡ some e
        → (u : Script.Expr) × ((v : Script.Expr) × ((expr_of σ a ≡ some u) × ((expr_of σ b ≡ some v) × (plain_expr e ≡ (plain_expr u && plain_expr v)))))
    unfolding expr_of plain_expr
    short-inv q a b e h = bind-some h λ u hu h'. bind-some h' λ v hv p. (u, (v, (hu, (hv, rw (← some_inj p) refl))))

    one-sided : (us : Trees Run) (f : Fun) (x : Syntax.Expr) (e : Script.Expr) (o : Trees Run) → (expr_in d us >>= λ a. closed o (Syntax.unary f a)) ≡ some x → o ≡ rest us → expr_of σ x ≡ some e → plain_expr e ≡ plain_in us
    unfolding expr_of plain_expr
    one-sided us f x e o h w k = bind-some h λ a ha c. closed-end c λ z q. let k' = rw (← q) at k in
        bind-some k' λ u hu p. rw (← some_inj p) (E us a u ha hu ∙ sym (one_plain us (sym w ∙ z)))

    -- `-`: a number, one side, two sides
    minus-plain : (us : Trees Run) (x : Syntax.Expr) (e : Script.Expr) → (worded_all us >>= λ vs. expr_form (λ t. expr d t) (λ t. target d t) h_minus (list vs)) ≡ some x → expr_of σ x ≡ some e
        → plain_expr e ≡ (sound_by (number_in us >>= λ z. closed (rest us) (Syntax.minus z)) && plain_in us)
    unfolding ◌>>=◌ closed sound_by expr_of atom_of plain_expr plain
    minus-plain us x e h k = go (number_in us) refl (rest us) refl
      where
        go : (o : Option ℤ) → number_in us ≡ o → (v : Trees Run) → rest us ≡ v → plain_expr e ≡ (sound_by (o >>= λ z. closed v (Syntax.minus z)) && plain_in us)
        go (some z) n end r =
            let q : const-minus z ≡ x = some_inj (sym (minus-number d us z n r) ∙ h) in
            let p = some_inj (rw (← q) at k) in
            rw (← p) (sym (ap (λ (b : Bool). inside least most (neg_ℤ z) && b) (one_plain us r ∙ number-plain us z n) ∙ and_one (inside least most (neg_ℤ z))))
          where
            const-minus : ℤ → Syntax.Expr
            const-minus y = Syntax.const (Syntax.minus y)
        go none n end r =
            one-sided us negate x e end (open-end (expr_in d us) (sym (minus_one d us n r) ∙ h)) (sym r) k
          where
            open-end : (o : Option Syntax.Expr) → (o >>= λ a. some (Syntax.unary negate a)) ≡ some x → (o >>= λ a. closed end (Syntax.unary negate a)) ≡ some x
            open-end none g = g
            open-end (some a) g = g
        go (some z) n (t then ts) r = two-sided us (Syntax.binary minus) x e (sym (minus-two d us t ts r) ∙ h) k (λ a b. binary-inv minus a b e)
        go none n (t then ts) r = two-sided us (Syntax.binary minus) x e (sym (minus-two d us t ts r) ∙ h) k (λ a b. binary-inv minus a b e)

    at-expr : (us : Trees Run) (x : Syntax.Expr) (e : Script.Expr)
        → ((target_in d us >>= λ g. expr_in d (rest us) >>= λ a. closed (rest (rest us)) (Syntax.at g a)) >>= λ g. some (Syntax.read g)) ≡ some x → expr_of σ x ≡ some e → plain_expr e ≡ plain_in us
    at-expr us x e h k = read_plain us x e (target_in d us >>= λ g. expr_in d (rest us) >>= λ a. closed (rest (rest us)) (Syntax.at g a)) h k
        λ g r hg hr. bind-some hg λ v hv h'. bind-some h' λ a ha c. closed-end c λ z q. at_plain us v a r hv ha z (rw (← q) at hr)

    dot-expr : (us : Trees Run) (x : Syntax.Expr) (e : Script.Expr)
        → ((target_in d us >>= λ g. name_in (rest us) >>= λ n. closed (rest (rest us)) (Syntax.dot g n)) >>= λ g. some (Syntax.read g)) ≡ some x → expr_of σ x ≡ some e → plain_expr e ≡ plain_in us
    dot-expr us x e h k = read_plain us x e (target_in d us >>= λ g. name_in (rest us) >>= λ n. closed (rest (rest us)) (Syntax.dot g n)) h k
        λ g r hg hr. bind-some hg λ v hv h'. bind-some h' λ n hn c. closed-end c λ z q. dot-plain us v n r hv hn z (rw (← q) at hr)

    set-plain : (us : Trees Run) (x : Syntax.Expr) (e : Script.Expr) → (worded_all us >>= λ vs. expr_form (λ t. expr d t) (λ t. target d t) h_members (list vs)) ≡ some x → expr_of σ x ≡ some e → plain_expr e ≡ plain_in us
    unfolding expr_of plain_expr
    set-plain us x e h k = bind-some (sym (members-parts d us) ∙ h) λ n hn h'. bind-some h' λ bs hbs q. let k' = rw (← some_inj q) at k in
        bind-some k' λ t ht k''. bind-some k'' λ es hes p. rw (← some_inj p) (members_plain (rest us) bs es hbs hes ∙ sym (first_rest us ∙ ap (λ (b : Bool). b && plain_in (rest us)) (type-plain us n hn)))

    bound-plain : (us : Trees Run) (b : Bool) (x : Syntax.Expr) (e : Script.Expr) → (worded_all us >>= λ vs. expr_form (λ t. expr d t) (λ t. target d t) (h_bound b) (list vs)) ≡ some x → expr_of σ x ≡ some e → plain_expr e ≡ plain_in us
    unfolding expr_of plain_expr
    bound-plain us b x e h k = bind-some (sym (bound-parts d us b) ∙ h) λ n hn c. closed-end c λ z q. let k' = rw (← q) at k in
        bind-some k' λ t ht p. rw (← some_inj p) (sym (one_plain us z ∙ type-plain us n hn))

    op-plain : (us : Trees Run) (x : Syntax.Expr) (e : Script.Expr) (o : Option Head) → formed o d us ≡ some x → expr_of σ x ≡ some e → ((h : Head) → o ≡ some h → (op : Op) × (h_op op ≡ h)) → plain_expr e ≡ plain_in us
    unfolding expr_form
    op-plain us x e o h k f = bind-some h λ hd hh g. let q = f hd hh in
        two-sided us (Syntax.binary q.0) x e (sym (two-parts d us (Syntax.binary q.0)) ∙ (rw (← q.1) at g)) k (λ u v. binary-inv q.0 u v e)

    fun-plain : (us : Trees Run) (x : Syntax.Expr) (e : Script.Expr) (o : Option Head) → formed o d us ≡ some x → expr_of σ x ≡ some e → ((h : Head) → o ≡ some h → (f : Fun) × (h_fun f ≡ h)) → plain_expr e ≡ plain_in us
    unfolding expr_form
    fun-plain us x e o h k f = bind-some h λ hd hh g. let q = f hd hh in
        one-sided us q.0 x e (rest us) (sym (one-part d us q.0) ∙ (rw (← q.1) at g)) refl k

    form-by : (k : ExprHead) (us : Trees Run) (x : Syntax.Expr) (e : Script.Expr) → formed (expr_head_meant k) d us ≡ some x → expr_of σ x ≡ some e → plain_expr e ≡ (sound_by (constant_by k us) && plain_in us)
    unfolding ◌>>=◌ constant_by sound_by expr_form
    form-by EH.At us x e h k = at-expr us x e (sym (at_read d us) ∙ h) k
    form-by EH.Dot us x e h k = dot-expr us x e (sym (dot-read d us) ∙ h) k
    form-by EH.Members us x e h k = set-plain us x e h k
    form-by EH.Minus us x e h k = minus-plain us x e h k
    form-by (EH.Bound b) us x e h k = bound-plain us b x e h k
    form-by (EH.Short b) us x e h k = two-sided us (Syntax.short_circuit b) x e (sym (two-parts d us (Syntax.short_circuit b)) ∙ h) k (λ u v. short-inv b u v e)
    form-by (EH.Two n) us x e h k = op-plain us x e (expr_head_meant (EH.Two n)) h k (λ hd hh. tabled h_op operators n hd hh)
    form-by (EH.One n) us x e h k = fun-plain us x e (expr_head_meant (EH.One n)) h k (λ hd hh. tabled h_fun functions n hd hh)
    form-by EH.Nothing us x e h k = none-some h

    -- an expression one level up
    expr-up : (us : Trees Run) (x : Syntax.Expr) (e : Script.Expr) → expr_in (suc d) us ≡ some x → expr_of σ x ≡ some e → plain_expr e ≡ plain_first us
    unfolding plain_first plain_tree minus_form
    expr-up end x e h k = none-some (sym (expr-end (suc d)) ∙ h)
    expr-up (word w then ts) x e h k = atom-plain (heads.atom_of (word_of w)) (map small w) x e (number-inside w) (sym (expr-word d w ts) ∙ h) k
    expr-up (form end then ts) x e h k = none-some (sym (expr-empty (suc d) ts) ∙ h)
    expr-up (form (form us then vs) then ts) x e h k = none-some (sym (expr-headless (suc d) us vs ts) ∙ h)
    expr-up (form (word w then us) then ts) x e h k =
        form-by (expr_head_of (word_of w)) us x e (ap (λ (o : Option Head). formed o d us) (sym (expr-head-is w)) ∙ sym (expr-form d w us ts) ∙ h) k
        ∙ ap (λ (o : Option Constant). sound_by o && plain_in us) (sym (constant-form w us end))

    var-plain : (a : Atom) (n : Name) (g : Syntax.Target) (r : Reached) → atom_target a n ≡ some g → target_of σ g ≡ some r → plain_target r.target ≡ true
    unfolding target_of plain_target
    var-plain (AT.Number z) n g r h k = none-some h
    var-plain AT.Named n g r h k = let q = rw (← some_inj h) at k in bind-some q λ i hi k'. bind-some k' λ v hv p. rw (← some_inj p) refl
    var-plain (AT.Truth b) n g r h k = none-some h
    var-plain AT.ErrorNumber n g r h k = none-some h
    var-plain (AT.Base b) n g r h k = none-some h
    var-plain AT.Nothing n g r h k = none-some h

    target_up : (us : Trees Run) (g : Syntax.Target) (r : Reached) → target_in (suc d) us ≡ some g → target_of σ g ≡ some r → plain_target r.target ≡ plain_first us
    unfolding plain_first plain_tree minus_form
    target_up end g r h k = none-some (sym (target-end (suc d)) ∙ h)
    target_up (word w then ts) g r h k = var-plain (heads.atom_of (word_of w)) (map small w) g r (sym (target-word d w ts) ∙ h) k
    target_up (form end then ts) g r h k = none-some (sym (target-empty (suc d) ts) ∙ h)
    target_up (form (form us then vs) then ts) g r h k = none-some (sym (target-headless (suc d) us vs ts) ∙ h)
    target_up (form (word w then us) then ts) g r h k =
        target-by (expr_head_of (word_of w)) us g r (sym (target-form d w us ts) ∙ h) k ∙ ap (λ (o : Option Constant). sound_by o && plain_in us) (sym (constant-form w us end))

  -- ---- any depth

  mutual
    pub expr-plain : (d : ℕ) (us : Trees Run) (x : Syntax.Expr) (e : Script.Expr) → expr_in d us ≡ some x → expr_of σ x ≡ some e → plain_expr e ≡ plain_first us
    expr-plain zero us x e h k = none-some (sym (expr-zero us) ∙ h)
    expr-plain (suc d) us x e h k = expr-up d (λ vs y f i j. expr-plain d vs y f i j) (λ vs y f i j. target-plain d vs y f i j) us x e h k

    pub target-plain : (d : ℕ) (us : Trees Run) (g : Syntax.Target) (r : Reached) → target_in d us ≡ some g → target_of σ g ≡ some r → plain_target r.target ≡ plain_first us
    target-plain zero us g r h k = none-some (sym (target-zero us) ∙ h)
    target-plain (suc d) us g r h k = target_up d (λ vs y f i j. expr-plain d vs y f i j) (λ vs y f i j. target-plain d vs y f i j) us g r h k

  -- ---- constants

  named-plain : (n : Name) (s : NameSort) (x : Const) → find σ.names n ≡ some s → as_value s ≡ some x → plain x ≡ true
  named-plain n (a_type t) x f g = none-some g
  named-plain n (a_var i) x f g = none-some g
  named-plain n (a_proc p ts) x f g = none-some g
  named-plain n (a_value y) x f g = rw (← some_inj g) (value-plain n y f)

  word-plain : (a : Atom) (n : Name) (c : Constant) (x : Const) → ((z : ℤ) → a ≡ AT.Number z → inside least most z ≡ true) → atom_constant a n ≡ some c → constant_of σ c ≡ some x → plain x ≡ true
  unfolding constant_of plain Calculate.truth inside
  word-plain (AT.Number z) n c x i h k = let q = some_inj (rw (← some_inj h) at k) in rw (← q) (i z refl)
  word-plain AT.Named n c x i h k = let q = rw (← some_inj h) at k in bind-some q λ s hs g. named-plain n s x hs g
  word-plain (AT.Truth true) n c x i h k = let q = some_inj (rw (← some_inj h) at k) in rw (← q) refl
  word-plain (AT.Truth false) n c x i h k = let q = some_inj (rw (← some_inj h) at k) in rw (← q) refl
  word-plain AT.ErrorNumber n c x i h k = none-some h
  word-plain (AT.Base b) n c x i h k = none-some h
  word-plain AT.Nothing n c x i h k = none-some h

  minus-const : (us : Trees Run) (c : Constant) (x : Const) (o : Option ℤ) (v : Trees Run) → number_in us ≡ o → rest us ≡ v → (o >>= λ z. closed v (Syntax.minus z)) ≡ some c → constant_of σ c ≡ some x
      → plain x ≡ (sound_by (o >>= λ z. closed v (Syntax.minus z)) && plain_in us)
  unfolding ◌>>=◌ closed sound_by constant_of plain
  minus-const us c x none v n r h k = none-some h
  minus-const us c x (some z) (t then ts) n r h k = none-some h
  minus-const us c x (some z) end n r h k =
      let p : const_of 0 (neg_ℤ z) ≡ x = some_inj (rw (← some_inj h) at k) in
      rw (← p) (sym (ap (λ (b : Bool). inside least most (neg_ℤ z) && b) (one_plain us r ∙ number-plain us z n) ∙ and_one (inside least most (neg_ℤ z))))

  form-plain : (j : ExprHead) (us : Trees Run) (c : Constant) (x : Const) → constant_by j us ≡ some c → constant_of σ c ≡ some x → plain x ≡ (sound_by (constant_by j us) && plain_in us)
  unfolding constant_by sound_by
  form-plain EH.At us c x h k = none-some h
  form-plain EH.Dot us c x h k = none-some h
  form-plain EH.Members us c x h k = none-some h
  form-plain EH.Minus us c x h k = minus-const us c x (number_in us) (rest us) refl refl h k
  form-plain (EH.Bound b) us c x h k = none-some h
  form-plain (EH.Short q) us c x h k = none-some h
  form-plain (EH.Two n) us c x h k = none-some h
  form-plain (EH.One n) us c x h k = none-some h
  form-plain EH.Nothing us c x h k = none-some h

  pub constant-plain : (us : Trees Run) (c : Constant) (x : Const) → constant_in us ≡ some c → constant_of σ c ≡ some x → plain x ≡ plain_first us
  unfolding plain_first plain_tree minus_form
  constant-plain end c x h k = none-some (sym constant-end ∙ h)
  constant-plain (word w then ts) c x h k = word-plain (heads.atom_of (word_of w)) (map small w) c x (number-inside w) (sym (constant-word w ts) ∙ h) k
  constant-plain (form end then ts) c x h k = none-some (sym (constant-empty ts) ∙ h)
  constant-plain (form (form us then vs) then ts) c x h k = none-some (sym (constant-headless us vs ts) ∙ h)
  constant-plain (form (word w then us) then ts) c x h k =
      form-plain (expr_head_of (word_of w)) us c x (sym (constant-form w us ts) ∙ h) k ∙ ap (λ (o : Option Constant). sound_by o && plain_in us) (sym (constant-form w us end))
