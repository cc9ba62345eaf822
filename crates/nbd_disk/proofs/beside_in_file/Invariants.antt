use Rattle.nbd_disk.proofs.beside_in_file.Given as goal

abbrev pub ghosts-serve_file_beside-N-Naming : goal.ghosts-serve_file_beside-N-Naming
ghosts-serve_file_beside-N-Naming g a = record { table = a.opened }
