-- The parts of a `proc` line after its name: the list, if there is one, and the body's.
use mathlib.Core.Path.{◌≡◌, refl, ap, ◌∙◌}
use mathlib.Core.List.{List, [], ◌∷◌}
use mathlib.Core.Option.{Option, none, some}
use Rattle.law.specs.Base.{Name, ◌>>=◌, each}
use Rattle.law.specs.Forms.{Item, field, pairs_of, parameters}
use Rattle.law.specs.Syntax.{TypeName}
use Rattle.law.specs.Trees.{Trees, word, form, end, ◌then◌, Run, list}
use Rattle.law.specs.Words.{Word, word_by, worded_all}
use Rattle.leaf_words.specs.Words.{word_of}
use Rattle.rule_pairs.proofs.PairParts.{pairs-each}
use Rattle.rule_parameters.specs.Listing.{list_of, parameters_by, parameters_in, body_by, body_part}

module _ {C : Type 0} (K : List (Name × TypeName) → List Item → Option C) where
  abbrev after : List Item → Option C
  after vs = parameters vs >>= λ q. K q.0 q.1

  -- what comes after the name, once its words are known
  pub list-parts : (us : Trees Run) → (worded_all us >>= λ (vs : Trees Word). after (list vs)) ≡ (parameters_in us >>= λ ps. worded_all (body_part us) >>= λ (vs : Trees Word). K ps (list vs))
  unfolding worded_all list parameters pairs_of list_of parameters_by body_by ◌>>=◌
  list-parts end = refl
  list-parts (word x then ts) = go (word_by (word_of x) x) (worded_all ts)
    where
      go : (o : Option Word) (u : Option (Trees Word)) → (((o >>= λ v. some (word v)) >>= λ v. u >>= λ vs. some (v then vs)) >>= λ (vs : Trees Word). after (list vs))
          ≡ (((o >>= λ v. some (word v)) >>= λ v. u >>= λ vs. some (v then vs)) >>= λ (vs : Trees Word). K [] (list vs))
      go none u = refl
      go (some v) none = refl
      go (some v) (some vs) = refl
  list-parts (form end then ts) = go (worded_all ts)
    where
      go : (u : Option (Trees Word)) → ((u >>= λ vs. some (form end then vs)) >>= λ (vs : Trees Word). after (list vs)) ≡ ((u >>= λ vs. some (form end then vs)) >>= λ (vs : Trees Word). K [] (list vs))
      go none = refl
      go (some vs) = refl
  list-parts (form (word x then us) then ts) = go (word_by (word_of x) x) (worded_all us) (worded_all ts)
    where
      go : (o : Option Word) (a u : Option (Trees Word))
          → (((((o >>= λ v. some (word v)) >>= λ v. a >>= λ vs. some (v then vs)) >>= λ vs. some (form vs)) >>= λ v. u >>= λ vs. some (v then vs)) >>= λ (vs : Trees Word). after (list vs))
          ≡ (((((o >>= λ v. some (word v)) >>= λ v. a >>= λ vs. some (v then vs)) >>= λ vs. some (form vs)) >>= λ v. u >>= λ vs. some (v then vs)) >>= λ (vs : Trees Word). K [] (list vs))
      go none a u = refl
      go (some v) none u = refl
      go (some v) (some vs) none = refl
      go (some v) (some vs) (some ws) = refl
  list-parts (form (form vs then us) then ts) =
      go (worded_all vs) (worded_all us) (worded_all ts)
      ∙ ap (λ (o : Option (List (Name × TypeName))). o >>= λ ps. worded_all ts >>= λ (vs : Trees Word). K ps (list vs)) (pairs-each (form vs then us))
    where
      last : (v w t : Trees Word) (d : Option (List (Name × TypeName))) → ◌>>=◌ {A = List (Name × TypeName) × List Item} (d >>= λ fs. some (fs, list t)) (λ q. K q.0 q.1) ≡ (d >>= λ ps. some t >>= λ (vs : Trees Word). K ps (list vs))
      last v w t none = refl
      last v w t (some fs) = refl

      none_left : (d : Option (List (Name × TypeName))) → none ≡ (d >>= λ ps. ◌>>=◌ {A = Trees Word} none (λ (vs : Trees Word). K ps (list vs)))
      none_left none = refl
      none_left (some fs) = refl

      go : (a b u : Option (Trees Word))
          → (((((a >>= λ vs. some (form vs)) >>= λ v. b >>= λ vs. some (v then vs)) >>= λ vs. some (form vs)) >>= λ v. u >>= λ vs. some (v then vs)) >>= λ (vs : Trees Word). after (list vs))
          ≡ ((((a >>= λ vs. some (form vs)) >>= λ v. b >>= λ vs. some (v then vs)) >>= λ (vs : Trees Word). each field (list vs)) >>= λ ps. u >>= λ (vs : Trees Word). K ps (list vs))
      go none b u = refl
      go (some v) none u = refl
      go (some v) (some w) none = none_left (each field (list (form v then w)))
      go (some v) (some w) (some t) = last v w t (each field (form v ∷ list w))
