use Rattle.ls_object.proofs.write.characters.+write_hexadecimal.Given as goal

abbrev pub decreases-write_hexadecimal : goal.decreases-write_hexadecimal
decreases-write_hexadecimal l = l.count
