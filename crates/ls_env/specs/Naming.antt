-- What an environment says of a name that is not built in.
use Rattle.std.specs.Prelude.{ℕ, ◌≡◌, ◌<◌, codes, List, slice_get, Some}
use Rattle.ls_object.specs.declared.symbol.Symbol.{Symbol}
use Rattle.ls_object.specs.Symbols.{common_lisp_symbol}
use Rattle.ls_env.specs.declared.status.NameStatus.{NameStatus}
use Rattle.ls_env.specs.declared.status.NameStatus.TheVariants as status
use Rattle.ls_env.specs.Environments.{Environment}
use Rattle.ls_structs.specs.Trees.{Definitions}
use Rattle.ls_env.specs.Statuses.{looked_up}
use Rattle.ls_env.specs.StructureTypes.{by_tree}

-- the symbol QUOTE, the head of the list that `'x` stands for
abbrev pub quote_symbol : Symbol
quote_symbol = common_lisp_symbol (codes "QUOTE")

-- the status of a name: Unknown where it is built in or no form defines it
abbrev pub status_of : Environment → Symbol → NameStatus
status_of env name = by_tree env.tree name (looked_up env.names env.statuses name)

-- the number is that of the template of some name that can be used
abbrev pub IsNumber : Environment → ℕ → Type 0
IsNumber env n = (name : Symbol) × (status_of env name ≡ status.Deftype n)

-- what an Env keeps: each number in its table is that of a template, and it has the status of QUOTE at hand
pub record IsTable (tree : Definitions) (names : List Symbol) (statuses : List NameStatus) (templates : ℕ) (quoted : NameStatus) : Type 0
  where
    pub numbers : (k n : ℕ) → slice_get statuses k ≡ Some (status.Deftype n) → n < templates
    pub quote : quoted ≡ by_tree tree quote_symbol (looked_up names statuses quote_symbol)
