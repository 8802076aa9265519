use Rattle.std.proofs.Common.{ℕ, List, Ok, Err, refl, rules, subst}
use Rattle.pw_cpp.specs.Answers.{AnswersText}
use Rattle.pw_cpp.proofs.Texts.{text-fault, text-put}
use Rattle.pw_cpp.proofs.reader.Reader.read_text.Goals as goal

pub returns-in-Err-clause-steps : goal.returns-in-Err-clause-steps
returns-in-Err-clause-steps c = λ f read.
    let P : List ℕ → Type 0 = λ rows. AnswersText c.args.self.now.source.now c.args.self.now.standing c.expanded-expanded.new.standing c.args.text.now c.args.at (record { next = c.args.at; rows = rows; produced = c.args.self.now.standing.produced; size = c.args.self.now.size }) c.expanded-expanded.new.progress (Err c.in-Err.fault) in
    text-fault c.args.self.now c.expanded-expanded.new.standing f c.args.text.now read c.args.at (record { alloc = c.args.self.now.alloc; source = c.args.self.now.source; files = c.args.self.now.files; spans = c.args.self.now.spans; file = c.args.self.now.file; standing = c.expanded-expanded.new.standing; out = c.args.self.now.out; size = c.args.self.now.size })
    (record { source = refl; files = refl; spans = refl; file = refl; out = refl; size = refl }) c.expanded-expanded.new.progress c.in-Err.fault (subst P c.new.ensures c.in-Err.ensures.expands) c.of_expansion.result c.of_expansion.ensures

pub returns-in-Ok-put_rows-clause-steps : goal.returns-in-Ok-put_rows-clause-steps
returns-in-Ok-put_rows-clause-steps c = λ f read.
    let P : List ℕ → Type 0 = λ rows. AnswersText c.args.self.now.source.now c.args.self.now.standing c.expanded-expanded.new.standing c.args.text.now c.args.at (record { next = c.args.at; rows = rows; produced = c.args.self.now.standing.produced; size = c.args.self.now.size }) c.expanded-expanded.new.progress (Ok c.in-Ok.out) in
    text-put c.args.self.now c.expanded-expanded.new.standing f c.args.text.now read c.args.at (record { alloc = c.args.self.now.alloc; source = c.args.self.now.source; files = c.args.self.now.files; spans = c.args.self.now.spans; file = c.args.self.now.file; standing = record { macros = c.expanded-expanded.new.standing.macros; sets = c.expanded-expanded.new.standing.sets; sections = c.expanded-expanded.new.standing.sections; nested = c.expanded-expanded.new.standing.nested; produced = c.expanded-expanded.new.progress.produced }; out = c.put_rows.new.out; size = c.expanded-expanded.new.progress.size })
    c.expanded-expanded.new.progress c.in-Ok.out (subst P c.new.ensures c.in-Ok.ensures.expands)
    (record {
      source = refl;
      file = refl;
      macros = c.in-Ok.ensures.same.macros;
      sections = c.in-Ok.ensures.same.sections;
      nested = c.in-Ok.ensures.same.nested;
      produced = refl;
      size = refl;
      put = λ known. search (rules, c.in-Ok-put_rows.ensures known, c.as_slice-rows.ensures, c.as_slice.ensures);
    })
