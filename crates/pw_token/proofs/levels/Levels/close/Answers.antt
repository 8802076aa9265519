use Rattle.std.proofs.Common.{refl, arith}
use Rattle.pw_token.proofs.LevelLaws.{depth-nest, outers-close, closed-sound}
use Rattle.pw_token.proofs.levels.Levels.close.Goals as goal

pub offset_bounds-self-self : goal.offset_bounds-self-self
offset_bounds-self-self c = omega (arith, depth-nest c.args.self.now c.requires.sound, c.requires.sound.small)

pub bounds-self-self : goal.bounds-self-self
bounds-self-self c = omega (arith, depth-nest c.args.self.now c.requires.sound, c.requires.sound.small, c.requires.inside)

pub returns-clause-sound : goal.returns-clause-sound
returns-clause-sound c =
    let s = c.args.self.now in
    closed-sound s _ c.requires.sound c.requires.inside (outers-close s.outer s.depth c.requires.inside) refl refl
