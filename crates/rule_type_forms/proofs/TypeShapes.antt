-- `type` lines part by part, and what the forms of types say by their head words.
use mathlib.Core.Path.{◌≡◌, refl, sym, ap, ◌∙◌}
use mathlib.Core.Bool.{false}
use mathlib.Core.List.{List, map}
use mathlib.Core.Option.{Option, none, some}
use Prim.Native.Nat.{ℕ, ◌<◌}
use lib.ListN.{length}
use Rattle.leaf_bytes.specs.Bytes.{small}
use Rattle.leaf_words.specs.Words.{word_of}
use Rattle.leaf_words.specs.declared.words.Word as Kind
use Rattle.law.specs.Base.{Name, ◌>>=◌}
use Rattle.law.specs.Forms.{Item, free, type_name, constant, type_form, made_type, among, makers, is_type}
use Rattle.law_theorems.specs.FormsByDepth.{line_by}
use Rattle.law.specs.Forms as Forms
use Rattle.law.specs.Syntax.{LineForm, TypeForm, TypeName, Constant, type_line, alias, set_of, array_of, range}
use Rattle.law.specs.Trees.{word, form, Trees, end, ◌then◌, Run, first, later, list, word_at}
use Rattle.law_theorems.specs.Readings.{stack_at}
use Rattle.law.specs.Words.{Word, worded, worded_all, word_by}
use Rattle.text_parts.specs.Parts.{LeafAt, FormAt, ShutAt, Stands}
use Rattle.text_parts.specs.declared.Part.{Part}
use Rattle.text_parts.specs.declared.Part.TheVariants as part
use Rattle.text_heads.specs.Heads.{maker_of, maker_meant}
use Rattle.text_heads.specs.Parts.{part_of, rest, closed, key_in, name_in, type_name_in, constant_in}
use Rattle.text_heads.specs.declared.Maker.{Maker}
use Rattle.text_heads.specs.declared.Maker.TheVariants as MK
use Rattle.text_heads.proofs.Heads.{maker-is}
use Rattle.text_heads.proofs.Walks.{bind-cong, bind_assoc, bind-swap, one_then, two_then, headed-form, empty-form, headless-form}
use Rattle.rule_faults.specs.declared.Fault.TheVariants.{Form}
use Rattle.rule_stages.specs.Stages.{wrong, staged}
use Rattle.rule_declarations.specs.Names.{GivesName}
use Rattle.rule_declarations.specs.Lines.{line_of, entry_staged, lined_by, GivesLine}
use Rattle.rule_type_lines.specs.TypeLines.{type_in, type_after, made_after, alias_after, GivesAlias, GivesMade}
use Rattle.rule_type_lines.specs.Simple.{set_in, array_in, range_in}
use Rattle.rule_enum_lines.specs.Enums.{enum_in}
use Rattle.rule_record_lines.specs.Records.{record_in}
use Rattle.rule_type_forms.specs.Shapes.{maker_by, GivesAfter, GivesForm}
use Rattle.rule_declarations.specs.declared.State.{State}
use Rattle.rule_declarations.specs.declared.Lined.{Lined}
use Rattle.rule_declarations.specs.declared.FreeName.{FreeName}
use Rattle.std.specs.Prelude.{Option as Maybe, Some, None}
use Rattle.rule_declarations.proofs.VarLines.{closed-map, failed-told}

-- ---- a line

pub type-parts : (n : ℕ) (us : Trees Run) → line_of is_type n us ≡ (name_in us >>= λ (w : Name). type_after w (rest us))
unfolding line_of line_by type_after type_in name_in
type-parts n us =
    sym (bind_assoc (worded_all us) (λ (vs : Trees Word). line_by is_type n (list vs)) (λ (p : LineForm × ℕ). some p.0))
    ∙ ap (λ (o : Option (LineForm × ℕ)). o >>= λ (p : LineForm × ℕ). some p.0) (two_then free type_form (λ (w : Name) (t : TypeForm). (type_line w t, n)) us)
    ∙ bind_assoc (part_of us >>= free) (λ (w : Name). (part_of (rest us) >>= type_form) >>= λ (t : TypeForm). closed (rest (rest us)) (type_line w t, n)) (λ (p : LineForm × ℕ). some p.0)
    ∙ bind-cong (part_of us >>= free) (λ (w : Name).
    bind_assoc (part_of (rest us) >>= type_form) (λ (t : TypeForm). closed (rest (rest us)) (type_line w t, n)) (λ (p : LineForm × ℕ). some p.0)
    ∙ bind-cong (part_of (rest us) >>= type_form) (λ (t : TypeForm). closed-map (λ (p : LineForm × ℕ). p.0) (rest (rest us)) (type_line w t, n)))

-- ---- the type

word-type : (x : Run) (ts : Trees Run) → type_in (word x then ts) ≡ (type_name_in (word x then ts) >>= λ (t : TypeName). some (alias t))
unfolding type_in type_name_in part_of worded type_form ◌>>=◌
word-type x ts = go (word_by (word_of x) x)
  where
    go : (o : Option Word) → ((o >>= λ (v : Word). some (word v)) >>= type_form) ≡ (((o >>= λ (v : Word). some (word v)) >>= type_name) >>= λ (t : TypeName). some (alias t))
    go none = refl
    go (some v) = refl

pub after-word : (w : Name) (x : Run) (ts : Trees Run) → type_after w (word x then ts) ≡ alias_after w (word x then ts)
unfolding type_after alias_after ◌>>=◌
after-word w x ts = ap (λ (o : Option TypeForm). o >>= λ (t : TypeForm). closed ts (type_line w t)) (word-type x ts)
    ∙ bind_assoc (type_name_in (word x then ts)) (λ (t : TypeName). some (alias t)) (λ (t : TypeForm). closed ts (type_line w t))

-- by its head word
by-maker : (h : Maker) (us : Trees Run) → (maker_meant h >>= λ (m : Forms.Maker). worded_all us >>= λ (vs : Trees Word). made_type m (list vs)) ≡ maker_by h us
unfolding ◌>>=◌ made_type set_in array_in range_in enum_in record_in type_name_in constant_in
by-maker MK.Enum us = refl
by-maker MK.Range us = two_then constant constant (λ (a b : Constant). range a b) us
by-maker MK.Array us = two_then type_name type_name (λ (i e : TypeName). array_of i e) us
by-maker MK.Record us = refl
by-maker MK.Set us = one_then type_name (λ (b : TypeName). set_of b) us
by-maker MK.Nothing us = refl

pub type-form : (x : Run) (us ts : Trees Run) → type_in (form (word x then us) then ts) ≡ maker_by (maker_of (word_of x)) us
unfolding type_in part_of type_form
type-form x us ts =
    headed-form type_form (λ (k : Name) (vs : List Item). among makers k >>= λ (m : Forms.Maker). made_type m vs) (λ vs. refl) x us
    ∙ bind-swap (key_in x) (worded_all us) (among makers) (λ (m : Forms.Maker) (vs : Trees Word). made_type m (list vs))
    ∙ ap (λ (o : Option Forms.Maker). o >>= λ (m : Forms.Maker). worded_all us >>= λ (vs : Trees Word). made_type m (list vs)) (maker-is x)
    ∙ by-maker (maker_of (word_of x)) us

pub type-end : type_in end ≡ none
unfolding type_in part_of ◌>>=◌
type-end = refl

pub type-empty : (ts : Trees Run) → type_in (form end then ts) ≡ none
unfolding type_in part_of type_form
type-empty ts = empty-form type_form (λ (k : Name) (vs : List Item). among makers k >>= λ (m : Forms.Maker). made_type m vs) (λ vs. refl)

pub type-headless : (us vs ts : Trees Run) → type_in (form (form us then vs) then ts) ≡ none
unfolding type_in part_of type_form
type-headless us vs ts = headless-form type_form (λ (k : Name) (xs : List Item). among makers k >>= λ (m : Forms.Maker). made_type m xs) (λ xs. refl) us vs

-- a form by its head word, and the parts after it
pub after-form : (w : Name) (x : Run) (us ts : Trees Run) → type_after w (form (word x then us) then ts) ≡ made_after w (maker_by (maker_of (word_of x)) us) ts
unfolding type_after made_after
after-form w x us ts = ap (λ (o : Option TypeForm). o >>= λ (t : TypeForm). closed ts (type_line w t)) (type-form x us ts)

-- ---- the ways through a line, from the answers for its parts

-- a type that is a word at `at`
pub line-alias : (s l ts : List ℕ) (st : State) (p at : ℕ) (x : Part) → Stands s at x → (w : Kind.Word) (a b : ℕ) → x ≡ part.Leaf w a b → (r : Lined) (l' : List ℕ)
    → GivesAlias s l st p at r l' → p < length s → GivesLine s l ts st (type_after (map small (word_at s p)) (first (stack_at s at))) r l' ts
line-alias s l ts st p at x h w a b e r l' G hp =
    let g : LeafAt s at a b × (w ≡ word_of (word_at s a)) = rw e at h.says in
    let z : type_after (map small (word_at s p)) (first (stack_at s at)) ≡ alias_after (map small (word_at s p)) (first (stack_at s at)) =
    ap (type_after (map small (word_at s p))) g.0.leaf.here ∙ after-word (map small (word_at s p)) (word_at s a) (first (stack_at s b)) ∙ sym (ap (alias_after (map small (word_at s p))) g.0.leaf.here) in
    rw z (G.gives ts hp)

-- a type that is a form at `at`, whose parts begin at u and whose head word ends at v
pub line_made : (s l ts : List ℕ) (st : State) (p at u : ℕ) → FormAt s at u → (y : Part) → Stands s u y → (w : Kind.Word) (a v : ℕ) → y ≡ part.Leaf w a v
    → (r : Lined) (l' ts' : List ℕ) → GivesMade s l ts st p v (maker_by (maker_of w) (first (stack_at s v))) r l' ts' → p < length s
    → GivesLine s l ts st (type_after (map small (word_at s p)) (first (stack_at s at))) r l' ts'
line_made s l ts st p at u F y h w a v e r l' ts' G hp =
    let g : LeafAt s u a v × (w ≡ word_of (word_at s a)) = rw e at h.says in
    let n : Name = map small (word_at s p) in
    let z : type_after n (first (stack_at s at)) ≡ made_after n (maker_by (maker_of w) (first (stack_at s v))) (first (later (stack_at s v))) =
    ap (type_after n) (F.here ∙ ap (λ (us : Trees Run). form us then first (later (stack_at s u))) g.0.leaf.here)
    ∙ after-form n (word_at s a) (first (stack_at s v)) (first (later (stack_at s u)))
    ∙ ap (λ (k : Kind.Word). made_after n (maker_by (maker_of k) (first (stack_at s v))) (first (later (stack_at s u)))) (sym g.1)
    ∙ ap (λ (q : List (Trees Run)). made_after n (maker_by (maker_of w) (first (stack_at s v))) (first q)) g.0.leaf.around in
    rw z (G.gives hp)

-- a line that says nothing
no_line : (s l ts : List ℕ) (st : State) (o : Option LineForm) → o ≡ none → (r : Lined) → r ≡ lined_by Form false st → GivesLine s l ts st o r l ts
unfolding entry_staged staged
no_line s l ts st o z r f = rw (f, z) (record { below = record { at = λ _ _ _. refl }; told = λ k bs H. failed-told s l ts st k bs wrong Form refl refl })

-- `made_line`
module _ (s l ts : List ℕ) (st : State) (p at : ℕ) (m : Maker) (r : Lined) where
  module _ (l' ts' : List ℕ) where
    pub by-enum : m ≡ MK.Enum → GivesMade s l ts st p at (enum_in (first (stack_at s at))) r l' ts' → GivesMade s l ts st p at (maker_by m (first (stack_at s at))) r l' ts'
    by-enum e G = rw e G

    pub by-range : m ≡ MK.Range → GivesMade s l ts st p at (range_in (first (stack_at s at))) r l' ts' → GivesMade s l ts st p at (maker_by m (first (stack_at s at))) r l' ts'
    by-range e G = rw e G

    pub by-array : m ≡ MK.Array → GivesMade s l ts st p at (array_in (first (stack_at s at))) r l' ts' → GivesMade s l ts st p at (maker_by m (first (stack_at s at))) r l' ts'
    by-array e G = rw e G

    pub by-record : m ≡ MK.Record → GivesMade s l ts st p at (record_in (first (stack_at s at))) r l' ts' → GivesMade s l ts st p at (maker_by m (first (stack_at s at))) r l' ts'
    by-record e G = rw e G

    pub by-set : m ≡ MK.Set → GivesMade s l ts st p at (set_in (first (stack_at s at))) r l' ts' → GivesMade s l ts st p at (maker_by m (first (stack_at s at))) r l' ts'
    by-set e G = rw e G

  pub by-nothing : m ≡ MK.Nothing → r ≡ lined_by Form false st → GivesMade s l ts st p at (maker_by m (first (stack_at s at))) r l ts
  unfolding made_after ◌>>=◌
  by-nothing e f = record { gives = λ hp. no_line s l ts st (made_after (map small (word_at s p)) (maker_by m (first (stack_at s at))) (first (later (stack_at s at)))) (rw e refl) r f }

pub ruleset made_laws = (by-enum, by-range, by-array, by-record, by-set, by-nothing)

-- `form_line`: u is past the bracket
module _ (s l ts : List ℕ) (st : State) (p u : ℕ) (y : Part) (h : Stands s u y) (r : Lined) where
  pub form-headed : (w : Kind.Word) (a v : ℕ) → y ≡ part.Leaf w a v → (m : Maker) → m ≡ maker_of w → (l' ts' : List ℕ)
      → GivesMade s l ts st p v (maker_by m (first (stack_at s v))) r l' ts' → GivesForm s l ts st p u r l' ts'
  form-headed w a v e m g l' ts' G = record { gives = λ at F hp. line_made s l ts st p at u F y h w a v e r l' ts' (rw g at G) hp }

  pub form-headless : (q : ℕ) → y ≡ part.Form q → r ≡ lined_by Form false st → GivesForm s l ts st p u r l ts
  unfolding type_after ◌>>=◌
  form-headless q e f = record {
    gives = λ at F hp.
        let g : FormAt s u q = rw e at h.says in
        let z : type_in (first (stack_at s at)) ≡ none = ap type_in (F.here ∙ ap (λ (us : Trees Run). form us then first (later (stack_at s u))) g.here) ∙ type-headless (first (stack_at s q)) (first (later (stack_at s q))) (first (later (stack_at s u))) in
        no_line s l ts st (type_after (map small (word_at s p)) (first (stack_at s at))) (rw z refl) r f;
  }

  pub form-empty : (q : ℕ) → y ≡ part.Shut q → r ≡ lined_by Form false st → GivesForm s l ts st p u r l ts
  unfolding type_after ◌>>=◌
  form-empty q e f = record {
    gives = λ at F hp.
        let g : ShutAt s u q = rw e at h.says in
        let z : type_in (first (stack_at s at)) ≡ none = ap type_in (F.here ∙ ap (λ (us : Trees Run). form us then first (later (stack_at s u))) g.here) ∙ type-empty (first (later (stack_at s u))) in
        no_line s l ts st (type_after (map small (word_at s p)) (first (stack_at s at))) (rw z refl) r f;
  }

pub form-other : (s l ts : List ℕ) (st : State) (p u : ℕ) (y : Part) → Stands s u y → (r : Lined) → ((w : Kind.Word) (a v : ℕ) → y ≡ part.Leaf w a v → ⊥) → r ≡ lined_by Form false st → GivesForm s l ts st p u r l ts
form-other s l ts st p u (part.Leaf w a v) h r k f = absurd (k w a v refl)
form-other s l ts st p u (part.Form q) h r k f = form-headless s l ts st p u (part.Form q) h r q refl f
form-other s l ts st p u (part.Shut q) h r k f = form-empty s l ts st p u (part.Shut q) h r q refl f

pub ruleset form_laws = (form-headed, form-other)

-- `type_after`
module _ (s l ts : List ℕ) (st : State) (p at : ℕ) (x : Part) (h : Stands s at x) (r : Lined) where
  pub after-alias : (w : Kind.Word) (a b : ℕ) → x ≡ part.Leaf w a b → (l' : List ℕ) → GivesAlias s l st p at r l' → GivesAfter s l ts st p at r l' ts
  after-alias w a b e l' G = record { gives = λ hp. line-alias s l ts st p at x h w a b e r l' G hp }

  pub after-made : (q : ℕ) → x ≡ part.Form q → (l' ts' : List ℕ) → GivesForm s l ts st p q r l' ts' → GivesAfter s l ts st p at r l' ts'
  after-made q e l' ts' G = record { gives = λ hp. G.gives at (rw e at h.says) hp }

  pub after-end : (q : ℕ) → x ≡ part.Shut q → r ≡ lined_by Form false st → GivesAfter s l ts st p at r l ts
  unfolding type_after ◌>>=◌
  after-end q e f = record {
    gives = λ hp.
        let g : ShutAt s at q = rw e at h.says in
        let z : type_in (first (stack_at s at)) ≡ none = ap type_in g.here ∙ type-end in
        no_line s l ts st (type_after (map small (word_at s p)) (first (stack_at s at))) (rw z refl) r f;
  }

pub ruleset after_laws = (after-alias, after-made, after-end)

-- `type_line`
module _ (s l ts : List ℕ) (st : State) (at : ℕ) (n : Maybe FreeName) (N : GivesName s at n) (r : Lined) where
  pub type-called : (m : FreeName) → n ≡ Some m → (l' ts' : List ℕ) → GivesAfter s l ts st m.at m.next r l' ts' → GivesLine s l ts st (line_of is_type 0 (first (stack_at s at))) r l' ts'
  unfolding ◌>>=◌
  type-called m e l' ts' G =
      let g = rw e at N.says in
      let z : line_of is_type 0 (first (stack_at s at)) ≡ type_after (map small (word_at s m.at)) (first (stack_at s m.next)) =
      type-parts 0 (first (stack_at s at)) ∙ ap (λ (o : Option Name). o >>= λ (w : Name). type_after w (rest (first (stack_at s at)))) g.2
      ∙ ap (λ (us : Trees Run). type_after (map small (word_at s m.at)) (rest us)) g.0.leaf.here in
      rw z (G.gives g.1)

  pub type-nothing : n ≡ None → r ≡ lined_by Form false st → GivesLine s l ts st (line_of is_type 0 (first (stack_at s at))) r l ts
  unfolding ◌>>=◌
  type-nothing e f =
      let g : name_in (first (stack_at s at)) ≡ none = rw e at N.says in
      no_line s l ts st (line_of is_type 0 (first (stack_at s at))) (type-parts 0 (first (stack_at s at)) ∙ ap (λ (o : Option Name). o >>= λ (w : Name). type_after w (rest (first (stack_at s at)))) g) r f

pub ruleset type_line_laws = (type-called, type-nothing)
