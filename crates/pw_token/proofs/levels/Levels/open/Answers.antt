use Rattle.std.proofs.Common.{◌<◌, ◌∷◌, length, refl, ap, arith}
use Rattle.std.proofs.lemmas.List.{length-set}
use Rattle.pw_token.proofs.LevelLaws.{depth-nest, outers-open, opened-sound}
use Rattle.pw_token.proofs.levels.Levels.open.Goals as goal

pub offset_bounds-self-self : goal.offset_bounds-self-self
offset_bounds-self-self c = omega (arith, depth-nest c.args.self.now c.requires.sound, c.requires.room)

pub bounds-self-self : goal.bounds-self-self
bounds-self-self c = omega (arith, depth-nest c.args.self.now c.requires.sound, c.requires.room)

pub overflow_add-self : goal.overflow_add-self
overflow_add-self c = omega (arith, depth-nest c.args.self.now c.requires.sound, c.requires.room)

pub returns-clause-levels : goal.returns-clause-levels
returns-clause-levels c =
    let s = c.args.self.now in
    let room : s.depth < length s.outer = omega (arith, depth-nest s c.requires.sound, c.requires.room, c.requires.sound.room) in
    ap (λ x. record { opener = c.args.opener; expressions = 0; controls = 0 } ∷ x) (outers-open s.outer s.depth s.innermost room)

pub returns-clause-sound : goal.returns-clause-sound
returns-clause-sound c =
    let s = c.args.self.now in
    let room : s.depth < length s.outer = omega (arith, depth-nest s c.requires.sound, c.requires.room, c.requires.sound.room) in
    opened-sound s _ c.requires.sound c.requires.room (record { opener = c.args.opener; expressions = 0; controls = 0 }) refl refl
    (ap (λ x. record { opener = c.args.opener; expressions = 0; controls = 0 } ∷ x) (outers-open s.outer s.depth s.innermost room)) refl (length-set s.outer s.depth s.innermost)
