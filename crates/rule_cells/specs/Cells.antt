-- How many cells an accepted text has, and the variable of each (law, Environment: `cells`, `owners`).
use Rattle.std.specs.Prelude.{List, ◌≡◌, ℕ, ◌<◌, length, drop, get_or, Result, Ok, Err}
use Rattle.law_answers.specs.declared.Refusal.{Refusal}
use Rattle.rule_declarations.specs.declared.State.{State}
use Rattle.rule_stores.specs.Stores.{Owner}
use Rattle.rule_known.specs.declared.Known.{Known}

-- the answer that a check of the text gives
unfoldable pub counted_by : Result Known Refusal → Result ℕ Refusal
counted_by (Ok kn) = Ok kn.state.cells
counted_by (Err e) = Err e

-- names holds the offsets of the names of the first cells' variables, and is as before past the cells
pub record Named (l ts : List ℕ) (st : State) (i : ℕ) (old names : List ℕ) : Type 0 where
  pub each : (j : ℕ) → j < i → j < length names → j < st.cells → Owner l ts st j (get_or names j 0)
  pub rest : drop st.cells names ≡ drop st.cells old

-- so for every cell that there is room for
pub record Names (l ts : List ℕ) (st : State) (old names : List ℕ) : Type 0 where
  pub long : length names ≡ length old
  pub each : (j : ℕ) → j < length names → j < st.cells → Owner l ts st j (get_or names j 0)
  pub rest : drop st.cells names ≡ drop st.cells old

-- the same by the answer for a text: a refusal leaves names as lent
pub record NamesBy (l ts : List ℕ) (c : Result Known Refusal) (old names : List ℕ) : Type 0 where
  pub kept : (e : Refusal) → c ≡ Err e → names ≡ old
  pub named : (kn : Known) → c ≡ Ok kn → Names l ts kn.state old names
