-- The nodes of statements, as the code makes them from the answers for their parts.
use Rattle.std.specs.Prelude.{Bool, true, false, cond, List, [], ◌∷◌, ℕ, ◌+◌, eqb, ltb}
use Rattle.code.specs.Layout.{lay}
use Rattle.rule_faults.specs.declared.Fault.{Fault}
use Rattle.rule_faults.specs.declared.Fault.TheVariants.{Clear, Kind, Name}
use Rattle.table_scope.specs.declared.Info.{Info}
use Rattle.table_scope.specs.declared.Loops.{Loops}
use Rattle.table_scope.specs.declared.Meaning.{Meaning}
use Rattle.table_scope.specs.declared.Meaning.TheVariants as meaning
use Rattle.table_scope.specs.Descriptions.{info_of}
use Rattle.table_scope.specs.Loops.{loops_over}
use Rattle.table_scope.specs.Sides.{host_in}
use Rattle.rule_faults.specs.declared.Got.{Got}
use Rattle.rule_faults.specs.Got.{lowest}
use Rattle.rule_expr_nodes.specs.Nodes.{Made, failed_made, node_made, if_clear}
use Rattle.rule_stmt_nodes.specs.BaseNodes.{with_fault, node_if}
use Rattle.text_heads.specs.declared.Atom.{Atom}
use Rattle.text_heads.specs.declared.Atom.TheVariants as AT
use Rattle.rule_stmt_nodes.specs.declared.last.Head.{Head}
use Rattle.rule_stmt_nodes.specs.declared.nodes.Control.{Control}

-- the number after n; the last of 32 bits is its own
unfoldable pub next_number : ℕ → ℕ
next_number n = cond (ltb n 4294967295) (n + 1) n

-- an expression of which kind k is wanted
unfoldable pub wanted_got : ℕ → Got → Got
wanted_got k g = cond (eqb k g.kind) g (with_fault g (lowest g.fault Kind))

-- ---- the verbs; n is the statement's number, and the last part's kind that of the last statement read

unfoldable pub raised : List ℕ → ℕ → Got → Made
raised l n c = node_if c.fault n c.next (51 ∷ n ∷ c.place ∷ []) c.top l

unfoldable pub looped : List ℕ → ℕ → Got → Got → Made
looped l n c b = node_if (lowest c.fault b.fault) b.kind b.next (47 ∷ n ∷ c.place ∷ b.place ∷ []) b.top l

unfoldable pub branched : List ℕ → ℕ → Got → Got → Got → Made
branched l n c a b = node_if (lowest (lowest c.fault a.fault) b.fault) b.kind b.next (46 ∷ n ∷ c.place ∷ a.place ∷ b.place ∷ []) b.top l

-- the missing third part of an `if`
abbrev pub skip_got : ℕ → ℕ → ℕ → Got
skip_got n q t = record { fault = Clear; kind = n; place = 0; next = q; top = t }

-- an assignment to a target of a type that i describes, whose kind is k
unfoldable pub stored : List ℕ → Info → ℕ → ℕ → Got → Got → Made
stored l i k n g e = cond (eqb k e.kind)
    (node_made n e.next (lay (cond (eqb i.shape 0) (43 ∷ n ∷ g.place ∷ e.place ∷ i.low ∷ i.high ∷ []) (cond (eqb i.shape 1) (44 ∷ n ∷ g.place ∷ e.place ∷ []) (52 ∷ n ∷ g.place ∷ e.place ∷ []))) e.top l))
    (failed_made Kind n e.next e.top l)

unfoldable pub assigned : List ℕ → List ℕ → ℕ → Got → Got → Made
assigned l ts n g e = if_clear (lowest g.fault e.fault) n e.next e.top l (stored l (info_of l ts g.kind) (host_in l ts g.kind) n g e)

-- the control variable of a `for`
abbrev pub control_is : Fault → ℕ → ℕ → ℕ → Control
control_is f i k a = record { fault = f; number = i; kind = k; base = a }

abbrev pub control_by : Meaning → Control
control_by meaning.Unknown = control_is Name 0 0 0
control_by (meaning.Type k) = control_is Name 0 0 0
control_by (meaning.Var i k a) = control_is Clear i k a
control_by (meaning.Proc p) = control_is Name 0 0 0
control_by (meaning.Value k v) = control_is Name 0 0 0

-- its fault where all parts fit; i describes its type
unfoldable pub control_fault : Bool → Info → Fault
control_fault over i = cond over Kind (cond (eqb i.shape 0) Clear Kind)

unfoldable pub repeated : List ℕ → Info → Fault → ℕ → Control → Got → Got → Got → Made
repeated l i f n v x y z =
    node_if (lowest (lowest v.fault (lowest (lowest x.fault y.fault) z.fault)) f) z.kind z.next
    (48 ∷ n ∷ v.base ∷ i.low ∷ i.high ∷ x.place ∷ y.place ∷ z.place ∷ []) z.top l

-- by the control variables in force
unfoldable pub repeated_by : List ℕ → Info → Loops → ℕ → Control → Got → Got → Got → Made
repeated_by l i m n v x y z = repeated l i (control_fault (loops_over m v.number) i) n v x y z

-- ---- chains of statements

unfoldable pub sequenced : List ℕ → ℕ → ℕ → Got → Made
sequenced l n slot m = node_if m.fault m.kind m.next (45 ∷ n ∷ slot ∷ []) m.top l

-- the answer for a chain with one statement more, laid up to t; and past the closing bracket
abbrev pub joined_got : Got → Got → ℕ → Got
joined_got g a t = record { fault = lowest g.fault a.fault; kind = a.kind; place = 0; next = a.next; top = t }

abbrev pub finished_got : Got → ℕ → Got
finished_got g q = record { fault = g.fault; kind = g.kind; place = 0; next = q; top = g.top }

-- a word that is a name
abbrev pub is_named : Atom → Bool
is_named (AT.Number z) = false
is_named AT.Named = true
is_named (AT.Truth b) = false
is_named AT.ErrorNumber = false
is_named (AT.Base k) = false
is_named AT.Nothing = false

-- ---- bodies; g is the answer for the statements before the handler, from the slot `start` on

unfoldable pub plain_made : List ℕ → Head → ℕ → Got → ℕ → Made
plain_made l h start g q =
    node_if g.fault g.kind q (h.number ∷ start ∷ 0 ∷ g.top ∷ h.frame ∷ []) (lay (0 ∷ []) g.top l).top (lay (0 ∷ []) g.top l).list

-- with a handler, whose answer is b
unfoldable pub handled_made : List ℕ → Head → ℕ → Got → Got → Made
handled_made l h start g b = node_if (lowest g.fault b.fault) b.kind b.next (h.number ∷ start ∷ 1 ∷ g.top ∷ h.frame ∷ []) b.top l
