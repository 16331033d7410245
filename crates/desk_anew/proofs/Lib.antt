mod Anew
