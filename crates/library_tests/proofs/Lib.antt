mod Desking
