-- The stages of a line that makes an enumeration.
use mathlib.Core.Path.{◌≡◌, refl, ap, ◌∙◌}
use mathlib.Core.Bool.{Bool, true, false, cond}
use mathlib.Core.List.{List, [], ◌∷◌}
use mathlib.Core.Option.{Option, none, some}
use Rattle.law.specs.Base.{Name, ◌>>=◌, given}
use Rattle.law.specs.Environment.{Declared}
use Rattle.law.specs.Forms.{some?}
use Rattle.law.specs.Names.{decl_of, entry_of}
use Rattle.law.specs.Rules.{keeps_rules, kept_decl}
use Rattle.law.specs.Script as Script
use Rattle.law.specs.Script.{new_type}
use Rattle.rule_stages.specs.Stages as Stages
use Rattle.rule_stages.specs.Stages.{wrong, unnamed, fits, ruled, staged}
use Rattle.law.specs.Syntax.{LineForm, TypeForm, type_line, enum}
use Rattle.law.specs.Trees.{Trees, Run}
use Rattle.rule_declarations.specs.Lines.{entry_staged}
use Rattle.rule_enum_lines.specs.Enums.{enum_in, names_in, fresh}
use Rattle.rule_enum_lines.proofs.EnumNames.{enum-parts, new-fresh}

module _ (k : Declared) (w : Name) (us : Trees Run) where
  abbrev line : Option LineForm
  line = enum_in us >>= λ (t : TypeForm). some (type_line w t)

  -- a part that is no name, or no name at all, is row 6
  pub enum-wrong : names_in us ≡ none → entry_staged k line ≡ wrong
  unfolding entry_staged staged ◌>>=◌
  enum-wrong e = rw (enum-parts us, e) refl

  pub enum-empty : names_in us ≡ some [] → entry_staged k line ≡ wrong
  unfolding entry_staged staged ◌>>=◌ some?
  enum-empty e = rw (enum-parts us, e) refl

  last-stage : (b : Bool) (v : Name) (vs : List Name) → Stages.named (given b (Script.enum v vs) >>= λ (d : Script.Decl). some (new_type w d)) (keeps_rules k.env.types) some
      ≡ cond b (fits (new_type w (Script.enum v vs))) unnamed
  unfolding Stages.named given ◌>>=◌ keeps_rules kept_decl ruled
  last-stage true v vs = refl
  last-stage false v vs = refl

  -- row 7: all names and the type's are new and differ
  pub enum-named : (v : Name) (vs : List Name) → names_in us ≡ some (v ∷ vs)
      → entry_staged k line ≡ cond (fresh k.env (w ∷ v ∷ vs)) (fits (new_type w (Script.enum v vs))) unnamed
  unfolding entry_staged staged ◌>>=◌ some? entry_of decl_of
  enum-named v vs e =
      let z : line ≡ some (type_line w (enum v vs)) = rw (enum-parts us, e) refl in
      ap (entry_staged k) z
      ∙ ap (λ (b : Bool). Stages.named (given b (Script.enum v vs) >>= λ (d : Script.Decl). some (new_type w d)) (keeps_rules k.env.types) some) (new-fresh k.env (w ∷ v ∷ vs))
      ∙ last-stage (fresh k.env (w ∷ v ∷ vs)) v vs
