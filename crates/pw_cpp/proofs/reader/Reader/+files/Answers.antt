use Rattle.std.proofs.Common.{◌≡◌, ◌+◌, ◌<◌, ◌∙◌, arith, Err, Some, [], ap, refl, reverse, rules, subst, sym}
use Rattle.pw_cpp.specs.Answers.{AnswersFile, AnswersStep, DoesQuoted, reads_of}
use Rattle.pw_cpp.specs.Files.{IncludesHeader, ReadsFile}
use Rattle.pw_cpp.proofs.Bounds.{name-within}
use Rattle.pw_cpp.proofs.Headers.{header-deep, header-fault, header-read}
use Rattle.pw_cpp.proofs.Including.{include-quoted, include-unquoted, quoted-found, quoted-missing, quoted-start, quoted-unlexed, quoted-wrong}
use Rattle.pw_cpp.proofs.GoingOn.{quoted-on, step-on}
use Rattle.pw_cpp.proofs.Lines.{line-include, line-left, line-marker, line-passed, line-pragma, line-text, line-whole}
use Rattle.pw_cpp.proofs.OneFile.{reads-end, reads-fault, reads-long, reads-on, reads-open, reads-start}
use Rattle.pw_cpp_directives.specs.Directives.{standing}
use Rattle.pw_cpp_sources.specs.Sources.{digits_of}
use Rattle.pw_cpp.proofs.reader.Reader.+files.Goals as goal

-- ---- an include

pub include-overflow_add-behind : goal.include-overflow_add-behind
include-overflow_add-behind d c = search (rules, name-within c.args.text.now c.args.at c.args.hash c.args.name c.requires.head)

pub include-pass_space-start-requires : goal.include-pass_space-start-requires
include-pass_space-start-requires d c = name-within c.args.text.now c.args.at c.args.hash c.args.name c.requires.head

pub include-unquoted-requires : goal.include-unquoted-requires
include-unquoted-requires d c = record { place = name-within c.args.text.now c.args.at c.args.hash c.args.name c.requires.head }

pub include-returns-in_default-clause-steps : goal.include-returns-in_default-clause-steps
include-returns-in_default-clause-steps d c = λ f read.
    include-unquoted c.args.self.now f c.args.text.now read digits_of c.args.depth c.args.hash c.args.name c.pass_space-start.result c.pass_space-start.ensures.passed (sym c.in_default.is ∙ c.quoted_at.ensures) c.unquoted.result c.unquoted.ensures

pub include-returns-clause-steps : goal.include-returns-clause-steps
include-returns-clause-steps d c = λ f read.
    include-quoted c.args.self.now f c.args.text.now read digits_of c.args.depth c.args.hash c.args.name c.pass_space-start.result c.pass_space-start.ensures.passed c.in-Some.header (sym c.in-Some.is ∙ c.quoted_at.ensures) c.quoted.new.self c.quoted.result (c.quoted.ensures.steps f read)

-- ---- a name in quotes

pub quoted-returns-in_err-line-clause-steps : goal.quoted-returns-in_err-line-clause-steps
quoted-returns-in_err-line-clause-steps d c = λ f read.
    let e : c.from_residual.result ≡ Err c.in_err-line.field-0.0 = first_of (search (rules, c.from_residual.ensures), cc (c.from_residual.ensures)) in
    subst (AnswersStep c.args.self.now c.args.self.now (DoesQuoted c.args.self.now.source.now (reads_of c.args.self.now) digits_of c.args.depth f c.args.hash c.args.name)) (sym e)
    (quoted-unlexed c.args.self.now f c.args.text.now read digits_of c.args.depth c.args.hash c.args.name c.in_err-line.field-0.0 c.in_err-line.ensures.lexes)

pub quoted-returns-then-is_wrong-clause-steps : goal.quoted-returns-then-is_wrong-clause-steps
quoted-returns-then-is_wrong-clause-steps d c = λ f read.
    quoted-wrong c.args.self.now f c.args.text.now read digits_of c.args.depth c.args.hash c.args.name c.in_ok-line.line c.in_ok-line.ensures.lexes (sym c.is_wrong.ensures ∙ c.if-is_wrong.true) c.faulty.result c.faulty.ensures

pub quoted-returns-in_default-clause-steps : goal.quoted-returns-in_default-clause-steps
quoted-returns-in_default-clause-steps d c = λ f read.
    quoted-missing c.args.self.now f c.args.text.now read digits_of c.args.depth c.args.hash c.args.name c.in_ok-line.line c.in_ok-line.ensures.lexes (sym c.is_wrong.ensures ∙ c.if-is_wrong.false) c.name_in-bytes.result.now c.name_in-bytes.ensures
    (sym c.in_default.is ∙ c.header.ensures) c.missing.result c.missing.ensures

pub quoted-returns-clause-steps : goal.quoted-returns-clause-steps
quoted-returns-clause-steps d c = λ f read.
    quoted-found c.args.self.now f c.args.text.now read digits_of c.args.depth c.args.hash c.args.name c.in_ok-line.line c.in_ok-line.ensures.lexes (sym c.is_wrong.ensures ∙ c.if-is_wrong.false) c.name_in-bytes.result.now c.name_in-bytes.ensures c.requires.matched
    c.in-Some.number (sym c.in-Some.is ∙ c.header.ensures) c.read_header.new.self c.read_header.result c.read_header.ensures.steps

-- ---- a file

pub read_file-returns-then-saturating_sub-gt-TEXT_LIMIT-clause-reads : goal.read_file-returns-then-saturating_sub-gt-TEXT_LIMIT-clause-reads
read_file-returns-then-saturating_sub-gt-TEXT_LIMIT-clause-reads d c =
    reads-long c.args.self.now c.args.number c.args.depth c.in-Some.span (sym c.place_at.ensures ∙ c.in-Some.is)
    (record { alloc = c.args.self.now.alloc; source = c.args.self.now.source; files = c.args.self.now.files; spans = c.args.self.now.spans; file = c.args.number; standing = c.args.self.now.standing; out = c.args.self.now.out; size = c.args.self.now.size })
    refl refl (search (rules, c.if-saturating_sub-gt-TEXT_LIMIT.true, c.saturating_sub.ensures)) c.limit.result c.limit.ensures

pub read_file-loop-at-init : goal.read_file-loop-at-init
read_file-loop-at-init d c = (
  (refl, refl, refl),
  c.requires.within,
  reads-start c.args.self.now c.args.number c.args.depth c.in-Some.span (sym c.place_at.ensures ∙ c.in-Some.is)
      (record { alloc = c.args.self.now.alloc; source = c.args.self.now.source; files = c.args.self.now.files; spans = c.args.self.now.spans; file = c.args.number; standing = c.args.self.now.standing; out = c.args.self.now.out; size = c.args.self.now.size })
      refl refl refl refl refl refl c.requires.bare (search (rules, c.if-saturating_sub-gt-TEXT_LIMIT.false, c.saturating_sub.ensures)) c.bytes_before-text.result.now c.bytes_before-text.ensures,
)

pub read_file-returns-in_err-next-clause-reads : goal.read_file-returns-in_err-next-clause-reads
read_file-returns-in_err-next-clause-reads d c = λ f e first.
    let is : c.from_residual.result ≡ Err c.in_err-next.field-0.0 = first_of (search (rules, c.from_residual.ensures), cc (c.from_residual.ensures)) in
    subst (AnswersFile c.args.self.now c.read_line.new.self (ReadsFile c.args.self.now.source.now (reads_of c.args.self.now) digits_of c.args.depth f)) (sym is)
    (reads-fault c.args.self.now c.args.number c.args.depth c.in-Some.span (sym c.place_at.ensures ∙ c.in-Some.is) c.loop-at.self c.loop-at.invariant.0 c.bytes_before-text.result.now c.loop-at.at c.loop-at.invariant.2 (search rules) c.read_line.new.self c.in_err-next.field-0.0 c.in_err-next.ensures.steps f e first)

pub read_file-loop-at-preserved : goal.read_file-loop-at-preserved
read_file-loop-at-preserved d c = (
  (c.read_line.ensures.keeps.0 ∙ c.loop-at.invariant.0.0, c.read_line.ensures.keeps.1 ∙ c.loop-at.invariant.0.1, c.read_line.ensures.keeps.2 ∙ c.loop-at.invariant.0.2),
  c.in_ok-next.ensures.within.0,
  reads-on c.args.self.now c.args.number c.args.depth c.in-Some.span (sym c.place_at.ensures ∙ c.in-Some.is) c.loop-at.self c.loop-at.invariant.0 c.bytes_before-text.result.now c.loop-at.at c.loop-at.invariant.2 (search rules) c.read_line.new.self c.read_line.ensures.keeps c.in_ok-next.next c.in_ok-next.ensures.steps,
)

pub read_file-returns-then-not-is_empty-clause-reads : goal.read_file-returns-then-not-is_empty-clause-reads
read_file-returns-then-not-is_empty-clause-reads d c =
    reads-open c.args.self.now c.args.number c.args.depth c.in-Some.span (sym c.place_at.ensures ∙ c.in-Some.is) c.loop-at.self c.loop-at.invariant.0 c.bytes_before-text.result.now c.loop-at.at c.loop-at.invariant.2 (search rules) (search (rules, c.is_empty.ensures)) c.faulty.result c.faulty.ensures

pub read_file-returns-clause-reads : goal.read_file-returns-clause-reads
read_file-returns-clause-reads d c =
    reads-end c.args.self.now c.args.number c.args.depth c.in-Some.span (sym c.place_at.ensures ∙ c.in-Some.is) c.loop-at.self c.loop-at.invariant.0 c.bytes_before-text.result.now c.loop-at.at c.loop-at.invariant.2 (search rules) (search (rules, c.is_empty.ensures)) (tt {0})

-- ---- a header

pub read_header-returns-then-depth-ge-DEPTH_LIMIT-clause-steps : goal.read_header-returns-then-depth-ge-DEPTH_LIMIT-clause-steps
read_header-returns-then-depth-ge-DEPTH_LIMIT-clause-steps d c = λ f inner name at e first.
    header-deep c.args.self.now c.args.self.now (record { source = refl; files = refl; spans = refl; file = refl; out = refl; size = refl }) digits_of c.args.depth c.args.hash c.args.next name f inner at (search rules) c.limit.result c.limit.ensures

pub read_header-returns-in_err-read_file-clause-steps : goal.read_header-returns-in_err-read_file-clause-steps
read_header-returns-in_err-read_file-clause-steps d c = λ f inner name at e first.
    let is : c.from_residual.result ≡ Err c.in_err-read_file.field-0.0 = first_of (search (rules, c.from_residual.ensures), cc (c.from_residual.ensures)) in
    subst (AnswersStep c.args.self.now c.read_file.new.self (λ r step. IncludesHeader c.args.self.now.source.now (reads_of c.args.self.now) digits_of c.args.depth f r c.args.hash c.args.next name (Some inner) step)) (sym is)
    (header-fault c.args.self.now (record { alloc = c.args.self.now.alloc; source = c.args.self.now.source; files = c.args.self.now.files; spans = c.args.self.now.spans; file = c.args.self.now.file; standing = record { macros = c.args.self.now.standing.macros; sets = c.args.self.now.standing.sets; sections = c.swap.new.y; nested = c.args.self.now.standing.nested; produced = c.args.self.now.standing.produced }; out = c.args.self.now.out; size = c.args.self.now.size }) (record { source = refl; files = refl; spans = refl; file = refl; out = refl; size = refl }) digits_of c.args.depth c.args.hash c.args.next name f inner (search rules) (let none : c.swap.new.y ≡ [] = search (rules, c.swap.ensures, c.new-outer.ensures) in ap (λ x. standing c.args.self.now.standing.macros (reverse x) c.args.self.now.standing.produced) none) refl c.read_file.new.self c.in_err-read_file.field-0.0 (c.in_err-read_file.ensures.reads inner e first))

pub read_header-returns-clause-steps : goal.read_header-returns-clause-steps
read_header-returns-clause-steps d c = λ f inner name at e first.
    header-read c.args.self.now (record { alloc = c.args.self.now.alloc; source = c.args.self.now.source; files = c.args.self.now.files; spans = c.args.self.now.spans; file = c.args.self.now.file; standing = record { macros = c.args.self.now.standing.macros; sets = c.args.self.now.standing.sets; sections = c.swap.new.y; nested = c.args.self.now.standing.nested; produced = c.args.self.now.standing.produced }; out = c.args.self.now.out; size = c.args.self.now.size }) (record { source = refl; files = refl; spans = refl; file = refl; out = refl; size = refl }) digits_of c.args.depth c.args.hash c.args.next name f inner (search rules) (let none : c.swap.new.y ≡ [] = search (rules, c.swap.ensures, c.new-outer.ensures) in ap (λ x. standing c.args.self.now.standing.macros (reverse x) c.args.self.now.standing.produced) none) refl c.read_file.new.self (record { alloc = c.read_file.new.self.alloc; source = c.read_file.new.self.source; files = c.read_file.new.self.files; spans = c.read_file.new.self.spans; file = c.args.self.now.file; standing = record { macros = c.read_file.new.self.standing.macros; sets = c.read_file.new.self.standing.sets; sections = c.swap.new.x; nested = c.read_file.new.self.standing.nested; produced = c.read_file.new.self.standing.produced }; out = c.read_file.new.self.out; size = c.read_file.new.self.size })
    (tt {0}) (c.in_ok-read_file.ensures.reads inner e first) refl refl refl refl
    (let back : c.swap.new.x ≡ c.args.self.now.standing.sections = search (rules, c.swap.ensures) in ap (λ x. standing c.read_file.new.self.standing.macros (reverse x) c.read_file.new.self.standing.produced) back) refl

-- ---- a line

pub read_line-returns-in-Marker-clause-steps : goal.read_line-returns-in-Marker-clause-steps
read_line-returns-in-Marker-clause-steps d c = λ f read. line-marker c.args.self.now f c.args.text.now read digits_of c.args.depth c.args.at c.in-Marker.hash c.pass_rest.result c.in-Marker.ensures c.pass_rest.ensures.passed

pub read_line-returns-then-is_reading-clause-steps : goal.read_line-returns-then-is_reading-clause-steps
read_line-returns-then-is_reading-clause-steps d c = λ f read.
    line-text c.args.self.now f c.args.text.now read digits_of c.args.depth c.args.at c.read_text.new.self c.read_text.result c.in-Text.ensures (sym c.is_reading.ensures ∙ c.if-is_reading.true) (c.read_text.ensures.steps f read)

pub read_line-returns-else-is_reading-clause-steps : goal.read_line-returns-else-is_reading-clause-steps
read_line-returns-else-is_reading-clause-steps d c = λ f read. line-passed c.args.self.now f c.args.text.now read digits_of c.args.depth c.args.at c.pass_line.result c.in-Text.ensures (sym c.is_reading.ensures ∙ c.if-is_reading.false) c.pass_line.ensures.passed

pub read_line-returns-in-Pragma-clause-steps : goal.read_line-returns-in-Pragma-clause-steps
read_line-returns-in-Pragma-clause-steps d c = λ f read. line-pragma c.args.self.now f c.args.text.now read digits_of c.args.depth c.args.at c.in-Directive.hash c.in-Directive.name c.in-Directive.ensures c.name_in.result.now c.name_in.ensures c.pass_rest-in-Pragma.result (sym c.in-Pragma.is ∙ c.way_of.ensures) c.pass_rest-in-Pragma.ensures.passed

pub read_line-returns-in-Include-clause-steps : goal.read_line-returns-in-Include-clause-steps
read_line-returns-in-Include-clause-steps d c = λ f read. line-include c.args.self.now f c.args.text.now read digits_of c.args.depth c.args.at c.in-Directive.hash c.in-Directive.name c.in-Directive.ensures c.name_in.result.now c.name_in.ensures c.include.new.self c.include.result (sym c.in-Include.is ∙ c.way_of.ensures) (c.include.ensures.steps f read)

pub read_line-returns-in-Whole-clause-steps : goal.read_line-returns-in-Whole-clause-steps
read_line-returns-in-Whole-clause-steps d c = λ f read. line-whole c.args.self.now f c.args.text.now read digits_of c.args.depth c.args.at c.in-Directive.hash c.in-Directive.name c.in-Directive.ensures c.name_in.result.now c.name_in.ensures c.obey.new.self c.obey.result (sym c.in-Whole.is ∙ c.way_of.ensures) (c.obey.ensures.steps f read)

pub read_line-returns-in-Passed-clause-steps : goal.read_line-returns-in-Passed-clause-steps
read_line-returns-in-Passed-clause-steps d c = λ f read. line-left c.args.self.now f c.args.text.now read digits_of c.args.depth c.args.at c.in-Directive.hash c.in-Directive.name c.in-Directive.ensures c.name_in.result.now c.name_in.ensures c.pass_directive.new.self c.pass_directive.result (sym c.in-Passed.is ∙ c.way_of.ensures) (c.pass_directive.ensures.steps f read)

-- ---- the next line is further on

pub quoted-returns-clause-within : goal.quoted-returns-clause-within
quoted-returns-clause-within d c =
    quoted-on c.read_header.new.self c.args.text.now (c.args.name.at + c.args.name.len) c.in_ok-line.line.next c.read_header.result c.in_ok-line.ensures.within c.in_ok-line.ensures.behind.0 c.read_header.ensures.within

pub include-returns-clause-within : goal.include-returns-clause-within
include-returns-clause-within d c =
    let here = c.heads_stand_behind.ensures.directive c.args.text.now c.args.at c.args.hash c.args.name c.requires.head in
    let space = c.heads_stand_behind.ensures.space c.args.text.now (c.args.name.at + c.args.name.len) c.pass_space-start.result c.pass_space-start.ensures.passed in
    let start = quoted-start c.args.text.now c.pass_space-start.result c.in-Some.header (sym c.in-Some.is ∙ c.quoted_at.ensures) in
    step-on c.quoted.new.self c.args.text.now (c.in-Some.header.at + c.in-Some.header.len) c.args.at c.quoted.result (omega (arith, here.0, here.2, space, start)) c.quoted.ensures.within

pub read_line-returns-in-Marker-clause-within : goal.read_line-returns-in-Marker-clause-within
read_line-returns-in-Marker-clause-within d c =
    let here = c.heads_stand_behind.ensures.marker c.args.text.now c.args.at c.in-Marker.hash c.in-Marker.ensures in
    let next = c.lines_go_on.ensures.rest c.args.text.now c.in-Marker.hash c.pass_rest.result c.pass_rest.ensures.passed in
    let behind : c.in-Marker.hash < c.pass_rest.result = next.1 here.1 in
    (c.requires.within, c.pass_rest.ensures.within, omega (arith, here.0, behind))

pub read_line-returns-else-is_reading-clause-within : goal.read_line-returns-else-is_reading-clause-within
read_line-returns-else-is_reading-clause-within d c =
    (c.requires.within, c.pass_line.ensures.within, (c.lines_go_on.ensures.line c.args.text.now c.args.at c.pass_line.result c.pass_line.ensures.passed).1 c.requires.place)

pub read_line-returns-in-Pragma-clause-within : goal.read_line-returns-in-Pragma-clause-within
read_line-returns-in-Pragma-clause-within d c =
    let here = c.heads_stand_behind.ensures.directive c.args.text.now c.args.at c.in-Directive.hash c.in-Directive.name c.in-Directive.ensures in
    let next = c.lines_go_on.ensures.rest c.args.text.now (c.in-Directive.name.at + c.in-Directive.name.len) c.pass_rest-in-Pragma.result c.pass_rest-in-Pragma.ensures.passed in
    (c.requires.within, c.pass_rest-in-Pragma.ensures.within, omega (arith, here.0, here.2, next.0))

pub read_line-returns-in-Whole-clause-within : goal.read_line-returns-in-Whole-clause-within
read_line-returns-in-Whole-clause-within d c =
    let here = c.heads_stand_behind.ensures.directive c.args.text.now c.args.at c.in-Directive.hash c.in-Directive.name c.in-Directive.ensures in
    step-on c.obey.new.self c.args.text.now c.in-Directive.hash c.args.at c.obey.result here.0 c.obey.ensures.within
