use Rattle.std.proofs.Common.{◌≡◌, codes, arith, rules}
use Rattle.std.proofs.lemmas.Slice.Eq.{text_from_reads}
use Rattle.seal_commands.proofs.Command.parse.Goals as goal
use Rattle.seal_commands.proofs.Command.parse.Goals.{in_default-via-then-word-lt4, in_default-via-else-word-lt4+then-word-lt5+in-115+in-101+in-97+in_default-1, in_default-via-else-word-lt4+then-word-lt5+in-115+in-101+in_default-1, in_default-via-else-word-lt4+then-word-lt5+in-115+in_default-1, in_default-via-else-word-lt4+then-word-lt5+in-111+in-112+in-101+in_default-1, in_default-via-else-word-lt4+then-word-lt5+in-111+in-112+in_default-1, in_default-via-else-word-lt4+then-word-lt5+in-111+in-110+in-99+in_default-1, in_default-via-else-word-lt4+then-word-lt5+in-111+in-110+in_default-1, in_default-via-else-word-lt4+then-word-lt5+in-111+in_default-1, in_default-via-else-word-lt4+then-word-lt5+in-109+in-97+in-114+in_default-1, in_default-via-else-word-lt4+then-word-lt5+in-109+in-97+in_default-1, in_default-via-else-word-lt4+then-word-lt5+in-109+in_default-1, in_default-via-else-word-lt4+then-word-lt5+in_default-1, in_default-via-else-word-lt4+else-word-lt5+then-word-lt6+in-98+in-108+in-111+in-99+in_default-1, in_default-via-else-word-lt4+else-word-lt5+then-word-lt6+in-98+in-108+in-111+in_default-1, in_default-via-else-word-lt4+else-word-lt5+then-word-lt6+in-98+in-108+in_default-1, in_default-via-else-word-lt4+else-word-lt5+then-word-lt6+in-98+in_default-1, in_default-via-else-word-lt4+else-word-lt5+then-word-lt6+in_default-1, in_default-via-else-word-lt4+else-word-lt5+else-word-lt6+then-word-lt7+in-115+in-116+in-114+in-101+in-97+in_default-1, in_default-via-else-word-lt4+else-word-lt5+else-word-lt6+then-word-lt7+in-115+in-116+in-114+in-101+in_default-1, in_default-via-else-word-lt4+else-word-lt5+else-word-lt6+then-word-lt7+in-115+in-116+in-114+in_default-1, in_default-via-else-word-lt4+else-word-lt5+else-word-lt6+then-word-lt7+in-115+in-116+in_default-1, in_default-via-else-word-lt4+else-word-lt5+else-word-lt6+then-word-lt7+in-115+in_default-1, in_default-via-else-word-lt4+else-word-lt5+else-word-lt6+then-word-lt7+in_default-1, in_default-via-else-word-lt4+else-word-lt5+else-word-lt6+else-word-lt7}

pub returns-in-stream : goal.returns-in-stream
returns-in-stream c =
    let is : c.args.word.now ≡ codes "stream" = text_from_reads c.args.word.now (codes "stream") (omega arith) (search rules) in
    rw is c.parse_stream.ensures

pub returns-in_default : goal.returns-in_default
returns-in_default c =
    elim c.in_default.branch [
      | in_default-via-then-word-lt4 w ↦ search rules
      | in_default-via-else-word-lt4+then-word-lt5+in-115+in-101+in-97+in_default-1 w ↦ search rules
      | in_default-via-else-word-lt4+then-word-lt5+in-115+in-101+in_default-1 w ↦ search rules
      | in_default-via-else-word-lt4+then-word-lt5+in-115+in_default-1 w ↦ search rules
      | in_default-via-else-word-lt4+then-word-lt5+in-111+in-112+in-101+in_default-1 w ↦ search rules
      | in_default-via-else-word-lt4+then-word-lt5+in-111+in-112+in_default-1 w ↦ search rules
      | in_default-via-else-word-lt4+then-word-lt5+in-111+in-110+in-99+in_default-1 w ↦ search rules
      | in_default-via-else-word-lt4+then-word-lt5+in-111+in-110+in_default-1 w ↦ search rules
      | in_default-via-else-word-lt4+then-word-lt5+in-111+in_default-1 w ↦ search rules
      | in_default-via-else-word-lt4+then-word-lt5+in-109+in-97+in-114+in_default-1 w ↦ search rules
      | in_default-via-else-word-lt4+then-word-lt5+in-109+in-97+in_default-1 w ↦ search rules
      | in_default-via-else-word-lt4+then-word-lt5+in-109+in_default-1 w ↦ search rules
      | in_default-via-else-word-lt4+then-word-lt5+in_default-1 w ↦ search rules
      | in_default-via-else-word-lt4+else-word-lt5+then-word-lt6+in-98+in-108+in-111+in-99+in_default-1 w ↦ search rules
      | in_default-via-else-word-lt4+else-word-lt5+then-word-lt6+in-98+in-108+in-111+in_default-1 w ↦ search rules
      | in_default-via-else-word-lt4+else-word-lt5+then-word-lt6+in-98+in-108+in_default-1 w ↦ search rules
      | in_default-via-else-word-lt4+else-word-lt5+then-word-lt6+in-98+in_default-1 w ↦ search rules
      | in_default-via-else-word-lt4+else-word-lt5+then-word-lt6+in_default-1 w ↦ search rules
      | in_default-via-else-word-lt4+else-word-lt5+else-word-lt6+then-word-lt7+in-115+in-116+in-114+in-101+in-97+in_default-1 w ↦ search rules
      | in_default-via-else-word-lt4+else-word-lt5+else-word-lt6+then-word-lt7+in-115+in-116+in-114+in-101+in_default-1 w ↦ search rules
      | in_default-via-else-word-lt4+else-word-lt5+else-word-lt6+then-word-lt7+in-115+in-116+in-114+in_default-1 w ↦ search rules
      | in_default-via-else-word-lt4+else-word-lt5+else-word-lt6+then-word-lt7+in-115+in-116+in_default-1 w ↦ search rules
      | in_default-via-else-word-lt4+else-word-lt5+else-word-lt6+then-word-lt7+in-115+in_default-1 w ↦ search rules
      | in_default-via-else-word-lt4+else-word-lt5+else-word-lt6+then-word-lt7+in_default-1 w ↦ search rules
      | in_default-via-else-word-lt4+else-word-lt5+else-word-lt6+else-word-lt7 w ↦ search rules
    ]
